-- Scopes: what they become where a local is added, and where an inner scope begins and ends.
use Rattle.std.specs.Prelude.{◌≡◌, true, false, List, [], ◌∷◌, ◌++◌, length, take, Result, Ok, Err, ⊤}
use Rattle.std.proofs.Common.{refl, ap, ◌∙◌}
use Rattle.std.proofs.Math.Seq.{take-length}
use Rattle.type_base.specs.declared.fault.Fault.{Fault}
use Rattle.type_base.specs.declared.fault.Fault.TheVariants.{NotTyped, OutOfMemory}
use Rattle.type_base.specs.declared.scope.Local.{Local}
use Rattle.type_base.specs.declared.scope.Scope.{Scope}
use Rattle.type_base.specs.Context.{Context, seen}
use Rattle.type_base.specs.Names.{is_new}

-- with one more local
abbrev pub with_local : Context → Local → Context
with_local cx l = record cx { locals = cx.locals ++ l ∷ [] }

-- in a scope that begins here
abbrev pub entered : Context → Context
entered cx = record cx { floor = length cx.locals }

-- the same of the scope that the code holds
abbrev pub pushed : Scope → Local → Scope
pushed s l = record s { locals = s.locals ++ l ∷ [] }

abbrev pub opened : Scope → Scope
opened s = record s { floor = length s.locals }

-- the local is added where its name is new in the innermost scope
abbrev pub Declares : {A : Type 0} → Result A Fault → Scope → Scope → Local → Type 0
Declares (Ok r) old new l = (is_new l.name (seen old) ≡ true) × (new ≡ pushed old l)
Declares (Err NotTyped) old new l = is_new l.name (seen old) ≡ false
Declares (Err OutOfMemory) old new l = ⊤

-- locals were added at the end, and nothing else changed
pub record Keeps (old new : Scope) : Type 0 where
  pub rest : new ≡ record old { locals = new.locals }
  pub outer : take (length old.locals) new.locals ≡ old.locals

-- ---- laws

take_front : {A : Type 0} (ys xs zs : List A) → take (length ys) xs ≡ ys → take (length ys) (xs ++ zs) ≡ ys
take_front [] xs zs e = refl
take_front (y ∷ ys) [] zs e = cc
take_front (y ∷ ys) (x ∷ xs) zs e =
    let h : x ≡ y = cc in
    let t : take (length ys) xs ≡ ys = cc in
    λ i. h i ∷ take_front ys xs zs t i

pub keeps_same : (s : Scope) → Keeps s s
keeps_same s = record { rest = refl; outer = take-length s.locals }

pub keeps_pushed : (old new : Scope) (l : Local) → Keeps old new → Keeps old (pushed new l)
keeps_pushed old new l k = record {
  rest = ap (λ (s : Scope). record s { locals = new.locals ++ l ∷ [] }) k.rest;
  outer = take_front old.locals new.locals (l ∷ []) k.outer;
}

-- after an inner scope that is left, everything is as before
pub left_is : (old new : Scope) → Keeps (opened old) new → record new { locals = take (length old.locals) new.locals; floor = old.floor } ≡ old
left_is old new k =
    ap (λ (s : Scope). record s { locals = take (length old.locals) new.locals; floor = old.floor }) k.rest
    ∙ ap (λ (ls : List Local). record old { locals = ls }) k.outer
