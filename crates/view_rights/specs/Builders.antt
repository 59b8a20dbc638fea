-- The items of a builder, and so all items, whatever number of forms may still be entered.
use Rattle.std.specs.Prelude.{◌≡◌, ℕ, zero, suc, ◌+◌, Bool, true, false, ◌||◌, List, [], ◌∷◌, ◌++◌, map, Option, Some, None, ⊤}
use Rattle.std.specs.List.{list_any, flat_map}
use Rattle.std.proofs.Common.{ap, subst, ◌∙◌}
use Rattle.identity_path.specs.declared.input.Input.{Input}
use Rattle.sv_value.specs.declared.value.Value.{Value}
use Rattle.swift_core.specs.Context.{Local, with_local}
use Rattle.swift_core.specs.Mentions.{joined, core_mentions, condition_mentions, item_mentions}
use Rattle.swift_core.specs.Typing.{Conditions, Items, Item, ItemForm, ItemArms, ItemCases, Covers}
use Rattle.swift_core.specs.declared.item.CoreItem.{CoreItem, out-CoreItem}
use Rattle.swift_core.specs.declared.item.ItemArm.{ItemArm}
use Rattle.swift_core.specs.declared.item.ItemCase.{ItemCase}
use Rattle.swift_core.specs.declared.item.ModifierCall.{ModifierCall}
use Rattle.swift_core.specs.declared.item.ViewCall.{ViewCall}
use Rattle.swift_core.specs.declared.stmt.Condition.{Condition}
use Rattle.swift_core.specs.declared.term.Core.{Core}
use Rattle.swift_core.specs.declared.ty.Ty.{Ty}
use Rattle.value_calls.specs.declared.traps.TrapKind.TheVariants.{Calls}
use Rattle.core_means.specs.Asks.{World, Doing, ◌>>=◌, ◌>>◌, give, trap, choose}
use Rattle.core_means.specs.Means.{inner as inner', conditions, matches, push, means}
use Rattle.view_nodes.specs.declared.kind.NodeKind.TheVariants as node
use Rattle.view_nodes.specs.declared.node.Element.{Element}
use Rattle.body_means.specs.Building.{content, views_from}
use Rattle.body_means.specs.Elements.{view}
use Rattle.body_means.specs.Items.{building, item_means, local_item, branch, guarded, arm, last_arm, unless_taken, arms, case_of, decision, selection, expression, item_at, item_form}
use Rattle.body_means.specs.Modified.{modifiers_from}
use Rattle.body_means.specs.Views.{view_form}
use Rattle.world_fits.specs.Laws.{Known}
use Rattle.world_fits.specs.Lists.{each_front, each_back, append_twice}
use Rattle.world_fits.specs.Sites.{Site, Scope, context}
use Rattle.form_rights.specs.Stmts.{Hold, conditions_grow, conditions_right}
use Rattle.meaning_rights.specs.Laws.{terms_have_meanings}
use Rattle.swift_core.specs.Alters.{all_of, core_alters, condition_alters, item_alters}
use Rattle.reader_locals.specs.AlterLayers.{From, Beyond}
use Rattle.reader_locals.specs.Filled.{fill, Settled}
use Rattle.reader_locals.specs.ItemAlters as alters
use Rattle.reader_locals.specs.ItemAlters.{view_alters, arm_alters, case_alters, modifier_alters}
use Rattle.reader_locals.specs.Statements.{runs_calm, terms_calm}
use Rattle.reader_locals.specs.Terms.{conditions_calm}
use Rattle.view_rights.specs.Customs.{ViewsHaveBodies}
use Rattle.body_terms.specs.Homes.{Home, Permitted, Permits, may_of}
use Rattle.view_rights.specs.ItemMentions as mentions
use Rattle.view_rights.specs.ItemMentions.{view_mentions, arm_mentions, case_mentions, modifier_mentions}
use Rattle.view_rights.specs.Modified.{modifiers_safe}
use Rattle.body_terms.specs.Nodes.{Makes, view_safe, ItemsRight, views_right, content_safe}
use Rattle.body_terms.specs.Safe.{Fitting, Grown, safe_then, safe_give, safe_framed, push_sound, spend_grows}
use Rattle.body_terms.specs.Sound.{Sound, then_sound, done_sound, trap_sound, sound_of}
use Rattle.body_terms.specs.Terms.{Term, eval_safe}
use Rattle.view_rights.specs.Views.{view_expression_safe}
use Rattle.body_terms.specs.Gives.{ElementFits, OptionFits, PartsFit, all_led_fit}

module _ (site : Site) (known : Known site) (bodies : ViewsHaveBodies site.program.table) (inputs : List Input) (whole room : ℕ) (right : ItemsRight site inputs whole (item_means site.program room)) (limit : ℕ) (sc : Scope) (code : ℕ) (home : Home site.program whole limit sc code)
    (locals : List Local) where
  abbrev Fits : Element → Type 0
  Fits = ElementFits site.program site.types whole

  abbrev AllFit : List Element → Type 0
  AllFit = PartsFit site.program site.types whole

  -- the views of a branch that was taken
  abbrev TakenFit : Option (List Element) → Type 0
  TakenFit None = ⊤
  TakenFit (Some views) = AllFit views

  abbrev SomeFits : Option Element → Type 0
  SomeFits = OptionFits site.program site.types whole

  -- ---- `if`

  inner_grown : (inner more : List Local) (u : World) → inner ≡ locals ++ more → Grown site inputs limit sc inner u → Grown site inputs limit sc locals u
  inner_grown inner more u e g = (more ++ g.0, subst (λ (ls : List Local). Fitting site inputs limit sc ls u) (ap (λ (ls : List Local). ls ++ g.0) e ∙ append_twice locals more g.0) g.1)

  branch_fits : (k : ℕ) (views : List Element) → AllFit views → AllFit (branch (building site.program room code) k views)
  branch_fits k views h = all_led_fit site.program site.types whole _ views h

  guarded_right : (k : ℕ) (cs : List Condition) (inner : List Local) (xs : List CoreItem) → Conditions (context site sc) locals cs inner → Items (context site sc) inner xs
      → Permits site sc (flat_map condition_mentions cs) → Beyond limit (flat_map condition_alters cs) → Permits site sc (joined (map item_mentions xs)) → Beyond limit (all_of (map item_alters xs))
      → (w : World) → Fitting site inputs limit sc locals w → Sound site inputs (λ o u. TakenFit o × Grown site inputs limit sc locals u) (guarded (building site.program room code) k cs xs w)
  unfolding guarded
  guarded_right k cs inner xs conds h conds_may conds_own may own w fit =
      then_sound site inputs _ (conditions (inner' site.program room) cs w) (λ t. choose t (views_from (item_means site.program room code) [] xs >>= λ views. give (Some (branch (building site.program room code) k views))) (give None))
      (sound_of site inputs _ limit (conditions (inner' site.program room) cs w) (conditions (inner' site.program room) cs (fill inputs w))
      (conditions_calm inputs limit (inner' site.program room) (terms_calm inputs site.program limit room) (runs_calm inputs site.program room) cs conds_own w fit.settled)
      (conditions_right site known (inner' site.program room) (terms_have_meanings site known room) sc locals cs inner conds (may_of site sc (flat_map condition_mentions cs) conds_may) (fill inputs w) fit.fits))
      (λ t u e. go t u e.0 e.1)
    where
      go : (t : Bool) (u : World) → Hold site sc locals inner t (fill inputs u) → Settled inputs limit u
          → Sound site inputs (λ o v. TakenFit o × Grown site inputs limit sc locals v) (choose t (views_from (item_means site.program room code) [] xs >>= λ views. give (Some (branch (building site.program room code) k views))) (give None) u)
      go true u holds settled =
          let grow = conditions_grow site known (inner' site.program room) (terms_have_meanings site known room) sc locals cs inner conds in
          then_sound site inputs _ (views_from (item_means site.program room code) [] xs u) (λ views. give (Some (branch (building site.program room code) k views)))
          (views_right site inputs whole room right limit sc code home inner xs h may own [] PartsFit.no_parts u (record { fits = holds; settled = settled }))
          (λ views v e. done_sound site inputs _ (Some (branch (building site.program room code) k views)) v (branch_fits k views e.0, inner_grown inner grow.0 v grow.1 e.1))
      go false u holds settled = done_sound site inputs _ None u (tt, (holds.0, record { fits = holds.1; settled = settled }))

  arm_safe : (k : ℕ) (a : ItemArm) (inner : List Local) → Conditions (context site sc) locals a.conditions inner → Items (context site sc) inner a.body → Permits site sc (arm_mentions a) → Beyond limit (arm_alters a)
      → Makes site inputs whole limit sc locals TakenFit (arm (building site.program room code) k a)
  unfolding arm
  arm_safe k a inner conds h may own =
      let may' = subst (Permits site sc) (mentions.arm_is a) may in
      let own' = subst (Beyond limit) (alters.arm_is a) own in
      let test = flat_map condition_mentions a.conditions in
      let body = joined (map item_mentions a.body) in
      safe_framed site inputs limit sc locals _ (guarded (building site.program room code) k a.conditions a.body)
      (guarded_right k a.conditions inner a.body conds h (each_front (Permitted site sc) test body may') (each_front (From limit) (flat_map condition_alters a.conditions) (all_of (map item_alters a.body)) own')
      (each_back (Permitted site sc) test body may') (each_back (From limit) (flat_map condition_alters a.conditions) (all_of (map item_alters a.body)) own'))

  unless_safe : (taken : Option (List Element)) (m : Doing (List Element)) → TakenFit taken → Makes site inputs whole limit sc locals AllFit m → Makes site inputs whole limit sc locals AllFit (unless_taken (building site.program room code) taken m)
  unless_safe None m taken h = h
  unless_safe (Some views) m taken h = safe_give site inputs limit sc locals _ views taken

  arms_safe : (k : ℕ) (as' : List ItemArm) (last : Option (List CoreItem)) → ItemArms (context site sc) locals as' → ((n : ℕ) → Makes site inputs whole limit sc locals AllFit (last_arm (building site.program room code) n last))
      → Permits site sc (joined (map arm_mentions as')) → Beyond limit (all_of (map arm_alters as')) → Makes site inputs whole limit sc locals AllFit (arms (building site.program room code) k as' last)
  unfolding arms
  arms_safe k as' last (ItemArms.no_item_arms) more may own = more k
  arms_safe k all last (ItemArms.more_item_arms {inner = inner} {a = a} {as' = as'} conds h others) more may own =
      safe_then site inputs limit sc locals _ (arm (building site.program room code) k a) (λ taken. unless_taken (building site.program room code) taken (arms (building site.program room code) (k + 1) as' last))
      (arm_safe k a inner conds h (each_front (Permitted site sc) (arm_mentions a) (joined (map arm_mentions as')) may) (each_front (From limit) (arm_alters a) (all_of (map arm_alters as')) own))
      (λ taken y. unless_safe taken (arms (building site.program room code) (k + 1) as' last) y
      (arms_safe (k + 1) as' last others more (each_back (Permitted site sc) (arm_mentions a) (joined (map arm_mentions as')) may) (each_back (From limit) (arm_alters a) (all_of (map arm_alters as')) own)))

  last_safe : (k : ℕ) (xs : List CoreItem) → Items (context site sc) locals xs → Permits site sc (joined (map item_mentions xs)) → Beyond limit (all_of (map item_alters xs))
      → Makes site inputs whole limit sc locals AllFit (last_arm (building site.program room code) k (Some xs))
  last_safe k xs h may own =
      safe_then site inputs limit sc locals _ (content (building site.program room code) xs) (λ views. give (branch (building site.program room code) k views)) (content_safe site inputs whole room right limit sc code home locals xs h may own)
      (λ views y. safe_give site inputs limit sc locals _ _ (branch_fits k views y))

  decision_safe : (as' : List ItemArm) (last : Option (List CoreItem)) → Makes site inputs whole limit sc locals AllFit (arms (building site.program room code) 0 as' last) → Makes site inputs whole limit sc locals SomeFits (decision (building site.program room code) as' last)
  unfolding decision
  decision_safe as' last h =
      safe_then site inputs limit sc locals _ (arms (building site.program room code) 0 as' last) (λ views. view node.Branches [] [] [] views >>= λ e. give (Some e)) h
      (λ views y. safe_then site inputs limit sc locals _ (view node.Branches [] [] [] views) (λ e. give (Some e)) (view_safe site inputs whole limit sc locals _ _ _ _ _ tt y) (λ e z. safe_give site inputs limit sc locals _ (Some e) z))

  -- ---- `switch`

  case_safe : (k : ℕ) (cs : List ItemCase) (v : Value) → ItemCases (context site sc) locals cs → list_any (matches v) (map (λ (c : ItemCase). c.patterns) cs) ≡ true
      → Permits site sc (joined (map case_mentions cs)) → Beyond limit (all_of (map case_alters cs)) → Makes site inputs whole limit sc locals AllFit (case_of (building site.program room code) k v cs)
  unfolding case_of
  case_safe k cs v (ItemCases.no_item_cases) e may own = cc
  case_safe k cs' v (ItemCases.more_item_cases {c = c} {cs = cs} h others) e may own =
      go (matches v c.patterns) e
      (λ f. case_safe (k + 1) cs v others f (each_back (Permitted site sc) (case_mentions c) (joined (map case_mentions cs)) may) (each_back (From limit) (case_alters c) (all_of (map case_alters cs)) own))
    where
      here : Makes site inputs whole limit sc locals AllFit (content (building site.program room code) c.body >>= λ views. give (branch (building site.program room code) k views))
      here =
          safe_then site inputs limit sc locals _ (content (building site.program room code) c.body) (λ views. give (branch (building site.program room code) k views))
          (content_safe site inputs whole room right limit sc code home locals c.body h (subst (Permits site sc) (mentions.case_is c) (each_front (Permitted site sc) (case_mentions c) (joined (map case_mentions cs)) may))
          (subst (Beyond limit) (alters.case_is c) (each_front (From limit) (case_alters c) (all_of (map case_alters cs)) own)))
          (λ views y. safe_give site inputs limit sc locals _ _ (branch_fits k views y))

      go : (b : Bool) → (b || list_any (matches v) (map (λ (x : ItemCase). x.patterns) cs)) ≡ true
          → (list_any (matches v) (map (λ (x : ItemCase). x.patterns) cs) ≡ true → Makes site inputs whole limit sc locals AllFit (case_of (building site.program room code) (k + 1) v cs))
          → Makes site inputs whole limit sc locals AllFit (choose b (content (building site.program room code) c.body >>= λ views. give (branch (building site.program room code) k views)) (case_of (building site.program room code) (k + 1) v cs))
      go true e later = here
      go false e later = later e

  selection_safe : (e : Core) (t : Ty) (cs : List ItemCase) → Term site known inputs limit sc locals e t → Covers site.program.table t (map (λ (c : ItemCase). c.patterns) cs) → ItemCases (context site sc) locals cs
      → Permits site sc (joined (map case_mentions cs)) → Beyond limit (all_of (map case_alters cs)) → Makes site inputs whole limit sc locals SomeFits (selection (building site.program room code) e cs)
  unfolding selection
  selection_safe e t cs h covers cases may own =
      safe_then site inputs limit sc locals _ (means site.program room e) (λ v. case_of (building site.program room code) 0 v cs >>= λ views. view node.Branches [] [] [] views >>= λ made. give (Some made))
      (eval_safe site known inputs limit sc locals room e t h)
      (λ v k. safe_then site inputs limit sc locals _ (case_of (building site.program room code) 0 v cs) (λ views. view node.Branches [] [] [] views >>= λ made. give (Some made))
      (case_safe 0 cs v cases (known.laws.cases site.program.table t v (map (λ (c : ItemCase). c.patterns) cs) covers k) may own)
      (λ views y. safe_then site inputs limit sc locals _ (view node.Branches [] [] [] views) (λ made. give (Some made)) (view_safe site inputs whole limit sc locals _ _ _ _ _ tt y) (λ made z. safe_give site inputs limit sc locals _ (Some made) z)))

  -- ---- items

  made_right : (m : Doing (Option Element)) → Makes site inputs whole limit sc locals SomeFits m → (w : World) → Fitting site inputs limit sc locals w → Sound site inputs (λ o u. SomeFits o × Fitting site inputs limit sc locals u) (m w)
  made_right m h w fit = h w fit

  expression_safe : (v : ViewCall) (ms : List ModifierCall) → Makes site inputs whole limit sc locals Fits (view_form (building site.program room code) v)
      → ((e : Element) → Fits e → Makes site inputs whole limit sc locals Fits (modifiers_from (building site.program room code) (record { wrapped = e; number = 0; decoration = 0 }) ms)) → Makes site inputs whole limit sc locals SomeFits (expression (building site.program room code) v ms)
  unfolding expression
  expression_safe v ms h more =
      safe_then site inputs limit sc locals _ (view_form (building site.program room code) v) (λ e. modifiers_from (building site.program room code) (record { wrapped = e; number = 0; decoration = 0 }) ms >>= λ made. give (Some made)) h
      (λ e k. safe_then site inputs limit sc locals _ (modifiers_from (building site.program room code) (record { wrapped = e; number = 0; decoration = 0 }) ms) (λ made. give (Some made)) (more e k)
      (λ made y. safe_give site inputs limit sc locals _ (Some made) y))

  local_right : (e : Core) (t : Ty) → Term site known inputs limit sc locals e t → (w : World) → Fitting site inputs limit sc locals w
      → Sound site inputs (λ o u. SomeFits o × Fitting site inputs limit sc (locals ++ Local.valued t ∷ []) u) (local_item (building site.program room code) e w)
  unfolding local_item
  local_right e t h w fit =
      then_sound site inputs _ (means site.program room e w) (λ v. push v >> give None) (eval_safe site known inputs limit sc locals room e t h w fit)
      (λ v u k. push_sound site inputs limit sc locals _ t v (give None) u k.0 k.1 (λ o g. done_sound site inputs _ None o (tt, g)))

  form_right : (x : ItemForm) (l : Option Local) → Item (context site sc) locals x l → Permits site sc (mentions.item_layer x) → Beyond limit (alters.item_layer x)
      → (w : World) → Fitting site inputs limit sc locals w → Sound site inputs (λ o u. SomeFits o × Fitting site inputs limit sc (with_local locals l) u) (item_at (building site.program room code) x w)
  form_right x l (Item.declare_item {c = c} {t = t} h) may own = local_right c t (h, may, own)
  form_right x l (Item.decide_item {arms = as'} h) may own =
      made_right _ (decision_safe as' None (arms_safe 0 as' None h (λ n. safe_give site inputs limit sc locals _ [] PartsFit.no_parts) (each_front (Permitted site sc) (joined (map arm_mentions as')) [] may) (each_front (From limit) (all_of (map arm_alters as')) [] own)))
  form_right x l (Item.decide_else_item {arms = as'} {is = xs} h items) may own =
      made_right _ (decision_safe as' (Some xs) (arms_safe 0 as' (Some xs) h
      (λ n. last_safe n xs items (each_back (Permitted site sc) (joined (map arm_mentions as')) (joined (map item_mentions xs)) may) (each_back (From limit) (all_of (map arm_alters as')) (all_of (map item_alters xs)) own))
      (each_front (Permitted site sc) (joined (map arm_mentions as')) (joined (map item_mentions xs)) may) (each_front (From limit) (all_of (map arm_alters as')) (all_of (map item_alters xs)) own)))
  form_right x l (Item.switch_item {c = c} {t = t} {cases = cs} h covers cases) may own =
      made_right _ (selection_safe c t cs (h, each_front (Permitted site sc) (core_mentions c) (joined (map case_mentions cs)) may, each_front (From limit) (core_alters c) (all_of (map case_alters cs)) own) covers cases
      (each_back (Permitted site sc) (core_mentions c) (joined (map case_mentions cs)) may) (each_back (From limit) (core_alters c) (all_of (map case_alters cs)) own))
  form_right x l (Item.view {v = v} {ms = ms} h modifiers) may own =
      made_right _ (expression_safe v ms
      (view_expression_safe site known bodies inputs whole room right limit sc code home locals v h (each_front (Permitted site sc) (view_mentions v) (joined (map modifier_mentions ms)) may) (each_front (From limit) (view_alters v) (all_of (map modifier_alters ms)) own))
      (λ e k. modifiers_safe site known inputs whole room right limit sc code home locals ms modifiers
      (each_back (Permitted site sc) (view_mentions v) (joined (map modifier_mentions ms)) may) (each_back (From limit) (view_alters v) (all_of (map modifier_alters ms)) own) (record { wrapped = e; number = 0; decoration = 0 }) k))

  pub item_right : (x : CoreItem) (l : Option Local) → Item (context site sc) locals (out-CoreItem x) l → Permits site sc (item_mentions x) → Beyond limit (item_alters x)
      → (w : World) → Fitting site inputs limit sc locals w → Sound site inputs (λ o u. SomeFits o × Fitting site inputs limit sc (with_local locals l) u) (item_form (building site.program room code) x w)
  unfolding item_form
  item_right x l h may own = form_right (out-CoreItem x) l h (subst (Permits site sc) (mentions.item_is x) may) (subst (Beyond limit) (alters.item_is x) own)

-- ---- where this many forms may still be entered

pub items_right : (site : Site) → Known site → ViewsHaveBodies site.program.table → (inputs : List Input) (whole room : ℕ) → ItemsRight site inputs whole (item_means site.program room)
unfolding item_means
items_right site known bodies inputs whole zero limit sc code home locals x l h may own w fit = spend_grows site inputs limit sc locals _ (trap Calls) w fit (λ u g. trap_sound site inputs _ Calls u)
items_right site known bodies inputs whole (suc room) limit sc code home locals x l h may own w fit =
    spend_grows site inputs limit sc locals _ (item_form (building site.program room code) x) w fit
    (item_right site known bodies inputs whole room (items_right site known bodies inputs whole room) limit sc code home locals x l h may own)
