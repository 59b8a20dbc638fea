-- What is known of the forms inside a form.
use Rattle.std.specs.Prelude.{◌≡◌, true, false, List, Option, Some, None, ⊤}
use Rattle.swift_core.specs.Context.{Local, with_local}
use Rattle.swift_core.specs.Mentions.{Mentions, core_mentions, stmt_mentions, over_mentions, invocation_mentions, change_mentions}
use Rattle.swift_core.specs.Typing.{Has, Statement, IsRange, Invokes, Changes, Within, Flow as HowItEnds, is_true_literal}
use Rattle.swift_core.specs.declared.stmt.CoreStmt.{CoreStmt, out-CoreStmt}
use Rattle.swift_core.specs.declared.stmt.Over.{Over}
use Rattle.swift_core.specs.declared.term.Change.{Change}
use Rattle.swift_core.specs.declared.term.Core.{Core, out-Core}
use Rattle.swift_core.specs.declared.term.Invocation.{Invocation}
use Rattle.swift_core.specs.declared.ty.Ty.{Ty}
use Rattle.core_means.specs.Asks.{World}
use Rattle.core_means.specs.Means.{Inside, truth}
use Rattle.core_means.specs.declared.parts.Flow.{Flow}
use Rattle.core_means.specs.declared.parts.Flow.TheVariants.{Next, Returned, Broke, Continued}
use Rattle.core_means.specs.declared.parts.Numbers.{Numbers}
use Rattle.value_fits.specs.Changes.{HasResult}
use Rattle.world_fits.specs.Lists.{Each}
use Rattle.world_fits.specs.Right.{Right}
use Rattle.world_fits.specs.Sites.{Site, Scope, context, ValueHas, Fits, Allowed}
use Rattle.form_rights.specs.Good.{Good}

-- each mention is allowed
abbrev pub MayDo : Site → Scope → Mentions → Type 0
MayDo site sc ms = Each (Allowed site sc) ms

-- A statement ends as its types say.
abbrev pub FlowFits : Site → Option Ty → Within → HowItEnds → Flow → Type 0
FlowFits site result within f Next = f.ends ≡ false
FlowFits site result within f (Returned None) = result ≡ None
FlowFits site result within f (Returned (Some v)) = (t : Ty) × (result ≡ Some t) × ValueHas site t v
FlowFits site result within f Broke = (f.breaks ≡ true) × (within.breaks ≡ true)
FlowFits site result within f Continued = within.continues ≡ true

-- A local is added where the next statement follows.
abbrev pub After : Site → Scope → List Local → Option Local → Flow → World → Type 0
After site sc locals l Next w = Fits site sc (with_local locals l) w
After site sc locals l (Returned o) w = Fits site sc locals w
After site sc locals l Broke w = Fits site sc locals w
After site sc locals l Continued w = Fits site sc locals w

pub record Rights (site : Site) (i : Inside) : Type 0 where
  pub same : i.program ≡ site.program
  pub eval : (sc : Scope) (locals : List Local) (e : Core) (t : Ty) → Has (context site sc) locals (out-Core e) t → MayDo site sc (core_mentions e) → Good site sc locals (ValueHas site t) (i.eval e)
  -- the word `true`
  pub forever : (sc : Scope) (locals : List Local) (e : Core) → is_true_literal (out-Core e) ≡ true → Good site sc locals (λ v. truth v ≡ Some true) (i.eval e)
  pub exec : (sc : Scope) (locals : List Local) (s : CoreStmt) (result : Option Ty) (within : Within) (l : Option Local) (f : HowItEnds)
      → Statement (context site sc) result within locals (out-CoreStmt s) l f → MayDo site sc (stmt_mentions s)
      → (w : World) → Fits site sc locals w → Right site (λ flow u. FlowFits site result within f flow × After site sc locals l flow u) (i.exec s w)
  pub span : (sc : Scope) (locals : List Local) (o : Over) → IsRange (context site sc) locals o → MayDo site sc (over_mentions o) → Good site sc locals (λ (n : Numbers). ⊤) (i.span o)
  pub call : (sc : Scope) (locals : List Local) (c : Invocation) (result : Option Ty) → Invokes (context site sc) locals c result → MayDo site sc (invocation_mentions c)
      → Good site sc locals (HasResult site.program.table result) (i.call c)
  pub change : (sc : Scope) (locals : List Local) (c : Change) (result : Option Ty) → Changes (context site sc) locals c result → MayDo site sc (change_mentions c)
      → Good site sc locals (HasResult site.program.table result) (i.change c)
