-- The making of nodes, and the views of builders where their items are right.
use Rattle.std.specs.Prelude.{ℕ, ◌+◌, ℤ, Bool, true, false, nat_lt, List, [], ◌∷◌, map, Option, Some, None, ⊤}
use Rattle.std.proofs.Common.{sym, subst}
use Rattle.identity_path.specs.declared.input.Input.{Input}
use Rattle.identity_path.specs.declared.step.Step.TheVariants as step
use Rattle.sv_value.specs.declared.value.Value.{Value}
use Rattle.swift_core.specs.Context.{Local, with_local}
use Rattle.swift_core.specs.Mentions.{joined, item_mentions}
use Rattle.swift_core.specs.Typing.{Items, Item}
use Rattle.swift_core.specs.declared.item.CoreItem.{CoreItem, out-CoreItem}
use Rattle.value_calls.specs.declared.traps.TrapKind.TheVariants.{Nodes}
use Rattle.core_means.specs.Asks.{World, Asks, Doing, ◌>>◌, give, trap, choose}
use Rattle.view_nodes.specs.Counts.{label_count, custom_count, reader_count}
use Rattle.view_nodes.specs.declared.kind.ModifierKind.{ModifierKind}
use Rattle.view_nodes.specs.declared.kind.NodeKind.{NodeKind}
use Rattle.view_nodes.specs.declared.node.Custom.{Custom}
use Rattle.view_nodes.specs.declared.node.Element.{Element}
use Rattle.view_nodes.specs.declared.node.Element.TheViews as element_view
use Rattle.view_nodes.specs.declared.node.Handler.{Handler}
use Rattle.view_nodes.specs.declared.node.Label.{Label}
use Rattle.view_nodes.specs.declared.node.Reader.{Reader}
use Rattle.body_means.specs.Building.{views_from, content}
use Rattle.body_means.specs.Elements.{with_child, set_nodes, tally, plain, view, modifier, custom, reader, text}
use Rattle.body_means.specs.Items.{building, item_means}
use Rattle.world_fits.specs.Lists.{each_front, each_back, Each}
use Rattle.world_fits.specs.Sites.{Site, Scope, context}
use Rattle.reader_locals.specs.AlterLayers.{From, Beyond}
use Rattle.swift_core.specs.Alters.{all_of, item_alters}
use Rattle.body_terms.specs.Homes.{Home, Permitted, Permits}
use Rattle.body_terms.specs.Safe.{Fitting, Grown, grown, grown_more, fits_nodes, Safe, safe_then, safe_give, safe_framed}
use Rattle.body_terms.specs.Sound.{Sound, then_sound, sound_weaker, done_sound, trap_sound}
use Rattle.body_terms.specs.Gives.{blocks_of, CustomFits, ElementFits, HandlerFits, NodeFits, OptionFits, PartsFit, ReaderFits, led_fits, parts_pushed}

-- ---- nodes

module _ (site : Site) (inputs : List Input) (whole limit : ℕ) (sc : Scope) (locals : List Local) where
  -- it makes what has the property, or traps
  abbrev pub Makes : {A : Type 0} → (A → Type 0) → (World → Asks A) → Type 0
  Makes P m = Safe site inputs limit sc locals P m

  abbrev pub Fine : Element → Type 0
  Fine = ElementFits site.program site.types whole

  abbrev pub AllFine : List Element → Type 0
  AllFine = PartsFit site.program site.types whole

  abbrev pub Kept : Handler → Type 0
  Kept = HandlerFits site.program site.types whole

  tally_safe : (n : ℕ) → Makes (λ x. ⊤) (tally n)
  unfolding tally
  tally_safe n w fit = go (nat_lt 20000 (w.nodes + n))
    where
      go : (b : Bool) → Sound site inputs (λ x u. ⊤ × Fitting site inputs limit sc locals u) (choose b (trap Nodes) (set_nodes (w.nodes + n)) w)
      go true = trap_sound site inputs _ Nodes w
      go false = done_sound site inputs _ tt (record w { nodes = w.nodes + n }) (tt, fits_nodes site inputs limit w (w.nodes + n) fit)

  counted_safe : {A : Type 0} (P : A → Type 0) (n : ℕ) (x : A) → P x → Makes P (tally n >> give x)
  counted_safe P n x h = safe_then site inputs limit sc locals _ (tally n) (λ y. give x) (tally_safe n) (λ y k. safe_give site inputs limit sc locals _ x h)

  plain_safe : (l : Label) (parts : List Element) → Each Kept (blocks_of l) → AllFine parts → Makes Fine (plain l parts)
  unfolding plain
  plain_safe l parts h k = counted_safe Fine (label_count l) _ (subst (NodeFits site.program site.types whole) (sym (element_view.outs-Plain [] l parts)) (NodeFits.plain_fits h k))

  pub view_safe : (kind : NodeKind) (xs : List Input) (numbers : List (Option ℤ)) (blocks : List Handler) (parts : List Element) → Each Kept blocks → AllFine parts → Makes Fine (view kind xs numbers blocks parts)
  unfolding view
  view_safe kind xs numbers blocks parts h k = plain_safe _ parts h k

  pub modifier_safe : (kind : ModifierKind) (number : ℕ) (xs : List Input) (numbers : List (Option ℤ)) (blocks : List Handler) (parts : List Element) → Each Kept blocks → AllFine parts
      → Makes Fine (modifier kind number xs numbers blocks parts)
  unfolding modifier
  modifier_safe kind number xs numbers blocks parts h k = plain_safe _ parts h k

  pub custom_safe : (d : ℕ) (c : Custom) → CustomFits site.program site.types c → Makes Fine (custom d c)
  unfolding custom
  custom_safe d c h = counted_safe Fine (custom_count c) _ (subst (NodeFits site.program site.types whole) (sym (element_view.outs-Custom (step.View d ∷ []) c)) (NodeFits.custom_fits h))

  pub reader_safe : (r : Reader) (e : Element) → ReaderFits site.program site.types r → Fine e → Makes Fine (reader r e)
  unfolding reader
  reader_safe r e h k = counted_safe Fine (reader_count r) _ (subst (NodeFits site.program site.types whole) (sym (element_view.outs-Reader [] r e)) (NodeFits.reader_fits h k))

  pub text_safe : (v : Value) → Makes Fine (text v)
  unfolding text
  text_safe v = view_safe _ _ _ _ _ tt PartsFit.no_parts

-- ---- builders

-- Each item, wherever it stands, is right, gives what is typed and adds its local.
abbrev pub ItemsRight : Site → List Input → ℕ → (ℕ → CoreItem → Doing (Option Element)) → Type 0
ItemsRight site inputs whole means = (limit : ℕ) (sc : Scope) (code : ℕ) → Home site.program whole limit sc code → (locals : List Local) (x : CoreItem) (l : Option Local)
    → Item (context site sc) locals (out-CoreItem x) l → Permits site sc (item_mentions x) → Beyond limit (item_alters x)
    → (w : World) → Fitting site inputs limit sc locals w → Sound site inputs (λ o u. OptionFits site.program site.types whole o × Fitting site inputs limit sc (with_local locals l) u) (means code x w)

module _ (site : Site) (inputs : List Input) (whole room : ℕ) (right : ItemsRight site inputs whole (item_means site.program room)) (limit : ℕ) (sc : Scope) (code : ℕ) (home : Home site.program whole limit sc code) where
  all_grown : (locals : List Local) (l : Option Local) (u : World) → Grown site inputs limit sc (with_local locals l) u → Grown site inputs limit sc locals u
  all_grown locals None u g = g
  all_grown locals (Some l) u g = grown_more site inputs limit locals (l ∷ []) g

  abbrev Gives : List Element → Type 0
  Gives = PartsFit site.program site.types whole

  with_view : (so_far : List Element) (o : Option Element) → Gives so_far → OptionFits site.program site.types whole o → Gives (with_child so_far o)
  with_view so_far None h k = h
  with_view so_far (Some e) h k = parts_pushed site.program site.types whole so_far _ h (led_fits site.program site.types whole _ e k)

  pub views_right : (locals : List Local) (xs : List CoreItem) → Items (context site sc) locals xs → Permits site sc (joined (map item_mentions xs)) → Beyond limit (all_of (map item_alters xs)) → (so_far : List Element) → Gives so_far
      → (w : World) → Fitting site inputs limit sc locals w → Sound site inputs (λ vs u. Gives vs × Grown site inputs limit sc locals u) (views_from (item_means site.program room code) so_far xs w)
  unfolding views_from
  views_right locals xs (Items.no_items) may own so_far h w fit = done_sound site inputs _ so_far w (h, grown site inputs limit fit)
  views_right locals xs' (Items.more_items {i = x} {is = xs} {l = l} k more) may own so_far h w fit =
      then_sound site inputs _ (item_means site.program room code x w) (λ o. views_from (item_means site.program room code) (with_child so_far o) xs)
      (right limit sc code home locals x l k (each_front (Permitted site sc) (item_mentions x) (joined (map item_mentions xs)) may) (each_front (From limit) (item_alters x) (all_of (map item_alters xs)) own) w fit)
      (λ o u e. sound_weaker site inputs (views_from (item_means site.program room code) (with_child so_far o) xs u)
      (views_right (with_local locals l) xs more (each_back (Permitted site sc) (item_mentions x) (joined (map item_mentions xs)) may) (each_back (From limit) (item_alters x) (all_of (map item_alters xs)) own) (with_child so_far o)
      (with_view so_far o h e.0) u e.1)
      (λ vs v g. (g.0, all_grown locals l v g.1)))

  -- a closure of views
  pub content_safe : (locals : List Local) (xs : List CoreItem) → Items (context site sc) locals xs → Permits site sc (joined (map item_mentions xs)) → Beyond limit (all_of (map item_alters xs))
      → Makes site inputs whole limit sc locals Gives (content (building site.program room code) xs)
  unfolding content
  content_safe locals xs h may own =
      safe_framed site inputs limit sc locals _ (views_from (item_means site.program room code) [] xs) (λ w fit. views_right locals xs h may own [] PartsFit.no_parts w fit)
