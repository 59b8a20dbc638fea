-- What the items of a builder mean. An item is a form: it spends a unit of fuel as it is entered.
use Rattle.std.specs.Prelude.{ℕ, zero, suc, ◌+◌, List, [], ◌∷◌, Option, Some, None}
use Rattle.identity_path.specs.declared.step.Step.TheVariants as step
use Rattle.sv_value.specs.declared.value.Value.{Value}
use Rattle.swift_core.specs.declared.item.CoreItem.{CoreItem, out-CoreItem}
use Rattle.swift_core.specs.declared.item.CoreItem.TheOpen.{CoreItem-F}
use Rattle.swift_core.specs.declared.item.ItemArm.{ItemArm}
use Rattle.swift_core.specs.declared.item.ItemCase.{ItemCase}
use Rattle.swift_core.specs.declared.item.Label.{Label}
use Rattle.swift_core.specs.declared.item.ModifierCall.{ModifierCall}
use Rattle.swift_core.specs.declared.item.ViewCall.{ViewCall}
use Rattle.swift_core.specs.declared.stmt.Condition.{Condition}
use Rattle.swift_core.specs.declared.term.Core.{Core}
use Rattle.swift_core.specs.Codes.{Parts as Program}
use Rattle.value_calls.specs.declared.traps.TrapKind.TheVariants.{Calls}
use Rattle.core_means.specs.Asks.{Doing, ◌>>=◌, ◌>>◌, give, trap, wrong, spend, choose}
use Rattle.core_means.specs.Means.{conditions, framed, inner, matches, push}
use Rattle.view_nodes.specs.declared.kind.NodeKind.TheVariants as node
use Rattle.view_nodes.specs.declared.node.Element.{Element}
use Rattle.body_means.specs.Building.{Building, content, place_of, views_from}
use Rattle.body_means.specs.Modified.{modifiers_from}
use Rattle.body_means.specs.Elements.{all_led, narrow, view}
use Rattle.body_means.specs.Views.{view_form}

module _ (b : Building) where
  -- a further local, and no view
  unfoldable pub local_item : Core → Doing (Option Element)
  local_item e = b.inside.eval e >>= λ v. push v >> give None

  -- ---- branches

  -- The views of the k-th branch stand under its step.
  abbrev pub branch : ℕ → List Element → List Element
  branch k views = all_led (step.Branch (narrow k) ∷ []) views

  -- the views of the k-th branch, where its conditions hold
  unfoldable pub guarded : ℕ → List Condition → List CoreItem → Doing (Option (List Element))
  guarded k cs xs = conditions b.inside cs >>= λ t. choose t (views_from (b.item b.code) [] xs >>= λ views. give (Some (branch k views))) (give None)

  -- The locals of the conditions and of the branch end with it.
  unfoldable pub arm : ℕ → ItemArm → Doing (Option (List Element))
  arm k a = framed (guarded k a.conditions a.body)

  abbrev pub last_arm : ℕ → Option (List CoreItem) → Doing (List Element)
  last_arm k None = give []
  last_arm k (Some xs) = content b xs >>= λ views. give (branch k views)

  abbrev pub unless_taken : Option (List Element) → Doing (List Element) → Doing (List Element)
  unless_taken None rest = rest
  unless_taken (Some views) rest = give views

  -- the first arm whose conditions hold, from the k-th on, and else the last one, if there is one
  unfoldable pub arms : ℕ → List ItemArm → Option (List CoreItem) → Doing (List Element)
  arms k [] last = last_arm k last
  arms k (a ∷ rest) last = arm k a >>= λ taken. unless_taken taken (arms (k + 1) rest last)

  -- the first case that the value matches, from the k-th on
  unfoldable pub case_of : ℕ → Value → List ItemCase → Doing (List Element)
  case_of k v [] = wrong
  case_of k v (c ∷ cs) = choose (matches v c.patterns) (content b c.body >>= λ views. give (branch k views)) (case_of (k + 1) v cs)

  -- An `if` or a `switch` is a node, also where no branch is taken. It holds the views of its branch and nothing else.
  unfoldable pub decision : List ItemArm → Option (List CoreItem) → Doing (Option Element)
  decision firsts last = arms 0 firsts last >>= λ views. view node.Branches [] [] [] views >>= λ e. give (Some e)

  unfoldable pub selection : Core → List ItemCase → Doing (Option Element)
  selection e cs = b.inside.eval e >>= λ v. case_of 0 v cs >>= λ views. view node.Branches [] [] [] views >>= λ made. give (Some made)

  -- ---- views

  -- a view, and then its modifiers
  unfoldable pub expression : ViewCall → List ModifierCall → Doing (Option Element)
  expression v ms = view_form b v >>= λ e. modifiers_from b (record { wrapped = e; number = 0; decoration = 0 }) ms >>= λ made. give (Some made)

  abbrev pub item_at : CoreItem-F CoreItem Label ViewCall ItemArm ItemCase ModifierCall → Doing (Option Element)
  item_at (CoreItem-F.Local e) = local_item e
  item_at (CoreItem-F.If firsts last) = decision firsts last
  item_at (CoreItem-F.Switch e cs) = selection e cs
  item_at (CoreItem-F.View v ms) = expression v ms

  unfoldable pub item_form : CoreItem → Doing (Option Element)
  item_form x = item_at (out-CoreItem x)

-- ---- where this many forms may still be entered

unfoldable pub item_means : Program → ℕ → ℕ → CoreItem → Doing (Option Element)
item_means p zero code x = spend >> trap Calls
item_means p (suc room) code x = spend >> item_form (record { inside = inner p room; code = code; place = place_of p room; item = item_means p room }) x

-- what the forms inside a piece of code mean, where this many may still be entered
abbrev pub building : Program → ℕ → ℕ → Building
building p room code = record { inside = inner p room; code = code; place = place_of p room; item = item_means p room }
