-- When what a chain is so far is well typed.
use Rattle.std.specs.Prelude.{◌≡◌, ℕ, Bool, true, false, List, Option, Some, None, slice_get}
use Rattle.std.proofs.Common.{sym, subst}
use Rattle.swift_core.specs.Context as cores
use Rattle.swift_core.specs.Context.{HasMember}
use Rattle.swift_core.specs.Types.{element_at, named_at}
use Rattle.swift_core.specs.Typing.{Has, Places, Receives, Changes, Invokes, CoreForm}
use Rattle.swift_core.specs.declared.table.Declaration.{Declaration}
use Rattle.swift_core.specs.declared.table.ParamSignature.{ParamSignature}
use Rattle.swift_core.specs.declared.table.Signature.{Signature}
use Rattle.swift_core.specs.declared.table.SignatureForm.TheVariants as form
use Rattle.swift_core.specs.declared.term.Core.{Core, out-Core}
use Rattle.swift_core.specs.declared.term.Receiver.{out-Receiver}
use Rattle.swift_core.specs.declared.ty.Ty.{Ty, out-Ty}
use Rattle.swift_core.specs.declared.ty.Ty.TheVariants as ty
use Rattle.type_base.specs.Claims.{some_is}
use Rattle.post_rules.specs.declared.chained.Chained.{Chained}
use Rattle.post_rules.specs.declared.chained.Chained.TheVariants as chained
use Rattle.post_rules.specs.declared.chained.Effect.{Effect}
use Rattle.post_rules.specs.declared.chained.Effect.TheVariants as effect

module _ (cx : cores.Context) (ls : List cores.Local) where
  -- the function at this place among the members of a declaration
  pub record IsFunction (d m : ℕ) (mutating : Bool) : Type 0 where
    pub signature : Signature
    pub declaration : Declaration
    pub declared : slice_get cx.table.declarations d ≡ Some declaration
    pub stands : slice_get declaration.members m ≡ Some signature
    pub parameters : List ParamSignature
    pub result : Option Ty
    pub is_so : signature.form ≡ form.Function parameters result mutating

  abbrev pub GoodEffect : Effect → Type 0
  GoodEffect (effect.Change c) = (value : Option Ty) × Changes cx ls c value
  GoodEffect (effect.Invoke i) = Invokes cx ls i None

  abbrev pub IsGood : Chained → Type 0
  IsGood (chained.Value c t) = Has cx ls (out-Core c) t
  IsGood (chained.Place p t) = Places cx ls p t
  IsGood chained.Itself = Unit {0}
  IsGood (chained.Named d) = Unit {0}
  IsGood (chained.BuiltIn b) = Unit {0}
  IsGood (chained.Next at t) = slice_get ls at ≡ Some (cores.Local.valued t)
  IsGood (chained.Function receiver d m) = Receives cx ls (out-Receiver receiver) d × IsFunction d m false
  IsGood (chained.Mutating p d m) = (t : Ty) × Places cx ls p t × ((named_at (out-Ty t) ≡ Some d) × IsFunction d m true)
  IsGood (chained.Asks c t m) = (l : Ty) × Has cx ls (out-Core c) l × (element_at (out-Ty l) ≡ Some t)
  IsGood (chained.Changes p t m) = (l : Ty) × Places cx ls p l × (element_at (out-Ty l) ≡ Some t)
  IsGood (chained.Toggles p) = Places cx ls p ty.Bool
  IsGood (chained.Indices c) = (l : Ty) × Has cx ls (out-Core c) l × ((t : Ty) × (element_at (out-Ty l) ≡ Some t))
  IsGood (chained.Effect e) = GoodEffect e

  -- what is found is what is good
  pub good_is : {s r : Chained} → ◌≡◌ {A = Option Chained} (Some s) (Some r) → IsGood s → IsGood r
  good_is {s = s} {r = r} e h = subst IsGood (some_is s r e) h

  -- a core is well typed by its level
  pub has_by : (c : Core) {l : CoreForm} {t : Ty} → out-Core c ≡ l → Has cx ls l t → Has cx ls (out-Core c) t
  has_by c {t = t} o h = subst (λ (m : CoreForm). Has cx ls m t) (sym o) h
