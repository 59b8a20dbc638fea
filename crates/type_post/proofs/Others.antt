-- What is so far in a chain, and the operand of a chain, where they are none of the kinds that are asked for.
use Rattle.std.proofs.Common.{◌≡◌, ℕ, List, None, refl}
use Rattle.swift_ast.specs.declared.tree.Arg.{Arg}
use Rattle.swift_ast.specs.declared.tree.Expr.{Expr}
use Rattle.swift_core.specs.declared.term.Core.{Core}
use Rattle.swift_core.specs.declared.term.Receiver.{Receiver}
use Rattle.swift_core.specs.declared.term.Target.{Target}
use Rattle.swift_core.specs.declared.ty.Ty.{Ty}
use Rattle.type_base.specs.Context.{Context}
use Rattle.type_base.specs.Rules.{Infer, FindPart}
use Rattle.post_rules.specs.declared.chained.BuiltIn.{BuiltIn}
use Rattle.post_rules.specs.declared.chained.Chained.{Chained}
use Rattle.post_rules.specs.declared.chained.Chained.TheVariants as chained
use Rattle.post_rules.specs.declared.chained.Effect.{Effect}
use Rattle.post_rules.specs.declared.chained.Method.{Method}
use Rattle.post_rules.specs.Calls.{find_call}
use Rattle.post_rules.specs.Chains.{value_of, find_chained_member, indices_of}
use Rattle.statement_rules.specs.Statements.{statement_of}

pub value_none : (s : Chained) → ((c : Core) (t : Ty) → s ≡ chained.Value c t → ⊥) → ((p : Target) (t : Ty) → s ≡ chained.Place p t → ⊥) → value_of s ≡ None
value_none (chained.Value c t) v p = absurd (v c t refl)
value_none (chained.Place q t) v p = absurd (p q t refl)
value_none chained.Itself v p = refl
value_none (chained.Named d) v p = refl
value_none (chained.BuiltIn b) v p = refl
value_none (chained.Next at t) v p = refl
value_none (chained.Function r d m) v p = refl
value_none (chained.Mutating q d m) v p = refl
value_none (chained.Asks c t m) v p = refl
value_none (chained.Changes q t m) v p = refl
value_none (chained.Toggles q) v p = refl
value_none (chained.Indices c) v p = refl
value_none (chained.Effect e) v p = refl

pub indices_none : (s : Chained) → ((c : Core) → s ≡ chained.Indices c → ⊥) → indices_of s ≡ None
indices_none (chained.Value c t) n = refl
indices_none (chained.Place q t) n = refl
indices_none chained.Itself n = refl
indices_none (chained.Named d) n = refl
indices_none (chained.BuiltIn b) n = refl
indices_none (chained.Next at t) n = refl
indices_none (chained.Function r d m) n = refl
indices_none (chained.Mutating q d m) n = refl
indices_none (chained.Asks c t m) n = refl
indices_none (chained.Changes q t m) n = refl
indices_none (chained.Toggles q) n = refl
indices_none (chained.Indices c) n = absurd (n c refl)
indices_none (chained.Effect e) n = refl

pub statement_none : (s : Chained) → ((e : Effect) → s ≡ chained.Effect e → ⊥) → ((c : Core) (t : Ty) → s ≡ chained.Value c t → ⊥) → statement_of s ≡ None
statement_none (chained.Value c t) n v = absurd (v c t refl)
statement_none (chained.Place q t) n v = refl
statement_none chained.Itself n v = refl
statement_none (chained.Named d) n v = refl
statement_none (chained.BuiltIn b) n v = refl
statement_none (chained.Next at t) n v = refl
statement_none (chained.Function r d m) n v = refl
statement_none (chained.Mutating q d m) n v = refl
statement_none (chained.Asks c t m) n v = refl
statement_none (chained.Changes q t m) n v = refl
statement_none (chained.Toggles q) n v = refl
statement_none (chained.Indices c) n v = refl
statement_none (chained.Effect e) n v = absurd (n e refl)

pub member_none : (s : Chained) (w : List ℕ) (cx : Context) → ((c : Core) (t : Ty) → s ≡ chained.Value c t → ⊥) → ((p : Target) (t : Ty) → s ≡ chained.Place p t → ⊥) → (s ≡ chained.Itself → ⊥)
    → ((d : ℕ) → s ≡ chained.Named d → ⊥) → ((b : BuiltIn) → s ≡ chained.BuiltIn b → ⊥) → find_chained_member s w cx ≡ None
unfolding find_chained_member
member_none (chained.Value c t) w cx v p i n b = absurd (v c t refl)
member_none (chained.Place q t) w cx v p i n b = absurd (p q t refl)
member_none chained.Itself w cx v p i n b = absurd (i refl)
member_none (chained.Named d) w cx v p i n b = absurd (n d refl)
member_none (chained.BuiltIn x) w cx v p i n b = absurd (b x refl)
member_none (chained.Next at t) w cx v p i n b = refl
member_none (chained.Function r d m) w cx v p i n b = refl
member_none (chained.Mutating q d m) w cx v p i n b = refl
member_none (chained.Asks c t m) w cx v p i n b = refl
member_none (chained.Changes q t m) w cx v p i n b = refl
member_none (chained.Toggles q) w cx v p i n b = refl
member_none (chained.Indices c) w cx v p i n b = refl
member_none (chained.Effect e) w cx v p i n b = refl

pub call_none : (f : Expr → Infer) (g : Expr → FindPart (Target × Ty)) (s : Chained) (args : List Arg) (cx : Context) → ((d : ℕ) → s ≡ chained.Named d → ⊥) → ((b : BuiltIn) → s ≡ chained.BuiltIn b → ⊥)
    → ((at : ℕ) (t : Ty) → s ≡ chained.Next at t → ⊥) → ((r : Receiver) (d m : ℕ) → s ≡ chained.Function r d m → ⊥) → ((p : Target) (d m : ℕ) → s ≡ chained.Mutating p d m → ⊥)
    → ((c : Core) (t : Ty) (m : Method) → s ≡ chained.Asks c t m → ⊥) → ((p : Target) (t : Ty) (m : Method) → s ≡ chained.Changes p t m → ⊥) → ((p : Target) → s ≡ chained.Toggles p → ⊥)
    → find_call f g s args cx ≡ None
unfolding find_call
call_none f g (chained.Value c t) args cx n b x u m a h w = refl
call_none f g (chained.Place q t) args cx n b x u m a h w = refl
call_none f g chained.Itself args cx n b x u m a h w = refl
call_none f g (chained.Named d) args cx n b x u m a h w = absurd (n d refl)
call_none f g (chained.BuiltIn y) args cx n b x u m a h w = absurd (b y refl)
call_none f g (chained.Next at t) args cx n b x u m a h w = absurd (x at t refl)
call_none f g (chained.Function r d i) args cx n b x u m a h w = absurd (u r d i refl)
call_none f g (chained.Mutating q d i) args cx n b x u m a h w = absurd (m q d i refl)
call_none f g (chained.Asks c t i) args cx n b x u m a h w = absurd (a c t i refl)
call_none f g (chained.Changes q t i) args cx n b x u m a h w = absurd (h q t i refl)
call_none f g (chained.Toggles q) args cx n b x u m a h w = absurd (w q refl)
call_none f g (chained.Indices c) args cx n b x u m a h w = refl
call_none f g (chained.Effect e) args cx n b x u m a h w = refl
