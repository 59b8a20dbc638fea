-- Statements in a row, and the bodies of functions.
use Rattle.std.specs.Prelude.{◌≡◌, Bool, true, false, ◌||◌, List, [], ◌∷◌, ◌++◌, map, Option, Some, None, ◌⊎◌}
use Rattle.std.specs.List.{flat_map}
use Rattle.std.proofs.Common.{refl, ap, subst, inl, inr}
use Rattle.sv_value.specs.declared.value.Value.{Value}
use Rattle.swift_core.specs.Context.{Local, with_local}
use Rattle.swift_core.specs.Mentions.{joined, stmt_mentions, form_mentions}
use Rattle.swift_core.specs.Typing.{Statements, Within, in_body, Flow as HowItEnds, then_flow, GivesValue, GivesResult}
use Rattle.swift_core.specs.declared.code.CodeForm.{CodeForm}
use Rattle.swift_core.specs.declared.mention.Mention.{Mention}
use Rattle.swift_core.specs.declared.stmt.CoreStmt.{CoreStmt}
use Rattle.swift_core.specs.declared.ty.Ty.{Ty}
use Rattle.core_means.specs.Asks.{World, give, given}
use Rattle.core_means.specs.Means.{Inside, and_next, block, body, value_of_flow, run_form}
use Rattle.core_means.specs.declared.parts.Flow.{Flow}
use Rattle.core_means.specs.declared.parts.Flow.TheVariants.{Next, Returned, Broke, Continued}
use Rattle.value_fits.specs.Changes.{HasResult}
use Rattle.world_fits.specs.Lists.{Each, each_front, each_back}
use Rattle.world_fits.specs.Locals.{grown, grown_more}
use Rattle.world_fits.specs.Right.{Right, then_right, weaker, done_right, GivesSome}
use Rattle.world_fits.specs.Sites.{Site, Scope, context, ValueHas, Fits, Grown, Allowed}
use Rattle.form_rights.specs.Inside.{MayDo, FlowFits, After, Rights}

or_false : (a b : Bool) → a ≡ false → b ≡ false → (a || b) ≡ false
or_false a b e f = λ i. e i || f i

or_first : (a b : Bool) → a ≡ true → (a || b) ≡ true
or_first a b e = ap (λ x. x || b) e

or_second : (a b : Bool) → b ≡ true → (a || b) ≡ true
or_second true b e = refl
or_second false b e = e

pub joined_map : {X : Type 0} (f : X → List Mention) (xs : List X) → flat_map f xs ≡ joined (map f xs)
joined_map f [] = refl
joined_map f (x ∷ xs) = ap (λ l. f x ++ l) (joined_map f xs)

module _ (site : Site) where
  -- the first statement goes on to the second
  after_first : (result : Option Ty) (within : Within) (f g : HowItEnds) (flow : Flow) → f.ends ≡ false → FlowFits site result within g flow → FlowFits site result within (then_flow f g) flow
  after_first result within f g Next e h = or_false f.ends g.ends e h
  after_first result within f g (Returned None) e h = h
  after_first result within f g (Returned (Some v)) e h = h
  after_first result within f g Broke e h = (or_second f.breaks g.breaks h.0, h.1)
  after_first result within f g Continued e h = h

  all_grown : (sc : Scope) (locals : List Local) (l : Option Local) (u : World) → Grown site sc (with_local locals l) u → Grown site sc locals u
  all_grown sc locals None u g = g
  all_grown sc locals (Some l) u g = grown_more site locals (l ∷ []) g

module _ (site : Site) (i : Inside) (r : Rights site i) where
  pub block_right : (sc : Scope) (result : Option Ty) (locals : List Local) (within : Within) (ss : List CoreStmt) (f : HowItEnds)
      → Statements (context site sc) result within locals ss f → MayDo site sc (joined (map stmt_mentions ss))
      → (w : World) → Fits site sc locals w → Right site (λ flow u. FlowFits site result within f flow × Grown site sc locals u) (block i ss w)
  unfolding block
  block_right sc result locals within ss f (Statements.no_statements) may w fit = done_right site _ Next w (refl, grown site fit)
  block_right sc result locals within ss f' (Statements.more_statements {s = s} {ss = rest} {l = l} {f = f} {g = g} first others) may w fit =
      then_right site _ (i.exec s w) (λ flow. and_next flow (block i rest)) (r.exec sc locals s result within l f first (each_front (Allowed site sc) (stmt_mentions s) (joined (map stmt_mentions rest)) may) w fit)
      (λ flow u e. step flow u e.0 e.1 (λ u. block_right sc result (with_local locals l) within rest g others (each_back (Allowed site sc) (stmt_mentions s) (joined (map stmt_mentions rest)) may) u))
    where
      step : (flow : Flow) (u : World) → FlowFits site result within f flow → After site sc locals l flow u
          → ((u : World) → Fits site sc (with_local locals l) u → Right site (λ flow u. FlowFits site result within g flow × Grown site sc (with_local locals l) u) (block i rest u))
          → Right site (λ flow u. FlowFits site result within (then_flow f g) flow × Grown site sc locals u) (and_next flow (block i rest) u)
      step Next u e after more = weaker site (block i rest u) (more u after) (λ flow v h. (after_first site result within f g flow e h.0, all_grown site sc locals l v h.1))
      step (Returned None) u e after more = done_right site _ (Returned None) u (e, grown site after)
      step (Returned (Some x)) u e after more = done_right site _ (Returned (Some x)) u (e, grown site after)
      step Broke u e after more = done_right site _ Broke u ((or_first f.breaks g.breaks e.0, e.1), grown site after)
      step Continued u e after more = done_right site _ Continued u (e, grown site after)

  -- a body ends with a value of the result's type, or without one where there is none
  flow_result : (result : Option Ty) (f : HowItEnds) (flow : Flow) → (f.ends ≡ true) ⊎ (result ≡ None) → FlowFits site result in_body f flow → GivesSome site (HasResult site.program.table result) (value_of_flow flow)
  flow_result None f Next ends h = tt
  flow_result (Some t) f Next (inl e) h = absurd (cc (e, h))
  flow_result (Some t) f Next (inr e) h = absurd (cc (e))
  flow_result None f (Returned None) ends h = tt
  flow_result (Some t) f (Returned None) ends h = absurd (cc h)
  flow_result None f (Returned (Some v)) ends h = absurd (cc (h.1))
  flow_result (Some t) f (Returned (Some v)) ends h = let same : h.0 ≡ t = let e = h.1 in cc in subst (λ (u : Ty). ValueHas site u v) same h.2
  flow_result result f Broke ends h = absurd (cc (h.1))
  flow_result result f Continued ends h = absurd (cc h)

  body_right : (sc : Scope) (locals : List Local) (result : Option Ty) (ss : List CoreStmt) (f : HowItEnds) → (f.ends ≡ true) ⊎ (result ≡ None)
      → Statements (context site sc) result in_body locals ss f → MayDo site sc (joined (map stmt_mentions ss))
      → (w : World) → Fits site sc locals w → Right site (λ o u. HasResult site.program.table result o × Grown site sc locals u) (body i ss w)
  unfolding body
  body_right sc locals result ss f ends h may w fit =
      then_right site _ (block i ss w) (λ flow. given (value_of_flow flow)) (block_right sc result locals in_body ss f h may w fit)
      (λ flow u e. go (value_of_flow flow) u (flow_result result f flow ends e.0) e.1)
    where
      go : (o : Option (Option Value)) (u : World) → GivesSome site (HasResult site.program.table result) o → Grown site sc locals u → Right site (λ o u. HasResult site.program.table result o × Grown site sc locals u) (given o u)
      go None u h g = absurd h
      go (Some o) u h g = done_right site _ o u (h, g)

  -- what a piece of code gives
  pub run_right : (sc : Scope) (locals : List Local) (form : CodeForm) (result : Option Ty) → GivesResult (context site sc) locals form result → MayDo site sc (form_mentions form)
      → (w : World) → Fits site sc locals w → Right site (λ o u. HasResult site.program.table result o × Grown site sc locals u) (run_form i form w)
  run_right sc locals form result (GivesResult.with_value {t = t} (GivesValue.by_term {c = c} h)) may w fit =
      then_right site _ (i.eval c w) (λ v. give (Some v)) (r.eval sc locals c t h may w fit) (λ v u e. done_right site _ (Some v) u (e.0, grown site e.1))
  run_right sc locals form result (GivesResult.with_value {t = t} (GivesValue.by_statements {ss = ss} {f = f} h ends)) may w fit =
      body_right sc locals (Some t) ss f (inl ends) h (subst (Each _) (joined_map stmt_mentions ss) may) w fit
  run_right sc locals form result (GivesResult.without_value {ss = ss} {f = f} h) may w fit = body_right sc locals None ss f (inr refl) h (subst (Each _) (joined_map stmt_mentions ss) may) w fit
