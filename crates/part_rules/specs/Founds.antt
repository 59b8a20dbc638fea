-- What the checks find is what the definitions say.
use Rattle.std.proofs.Common.{◌≡◌, ℕ, ◌+◌, List, [], ◌∷◌, ◌++◌, length, Option, Some, None, Ok, Err, refl, sym, ap, subst, ◌∙◌, inl, inr, append_assoc, length-append}
use Rattle.std.proofs.lemmas.List.{append-nil}
use Rattle.swift_core.specs.declared.table.Table.{Table}
use Rattle.swift_core.specs.declared.code.CoreMember.{CoreMember}
use Rattle.source_parts.specs.Parts.{Part, line_of}
use Rattle.part_rules.specs.Typed.{TypedPart, Typed, FirstUntyped}
use Rattle.part_rules.specs.Checks.{find_part, part_exact, Found, by_part, check_from}

same_ok : {a b : List CoreMember} → a ≡ b → ◌≡◌ {A = Found} (Ok a) (Ok b)
same_ok e = λ i. Ok (e i)

same_err : {l m : ℕ} → l ≡ m → ◌≡◌ {A = Found} (Err l) (Err m)
same_err e = λ i. Err (e i)

abbrev TypedAs : Table → List CoreMember → List Part → List CoreMember → Type 0
TypedAs table cores ps new = (front : List CoreMember) × Typed table (length cores) ps front × (new ≡ cores ++ front)

typed_by : (table : Table) (p : Part) (ps : List Part) (cores new : List CoreMember)
    → ((next : List CoreMember) → check_from table next ps ≡ Ok new → TypedAs table next ps new)
    → (o : Option (List CoreMember)) → find_part table (length cores) p ≡ o
    → by_part o (line_of p) cores (λ next. check_from table next ps) ≡ Ok new
    → TypedAs table cores (p ∷ ps) new
unfolding Typed
typed_by table p ps cores new rest None h e = cc
typed_by table p ps cores new rest (Some front) h e =
    let r = rest (cores ++ front) e in
    (front ++ r.0, (front, (part_exact table (length cores) p front).0 h, (r.0, subst (λ (n : ℕ). Typed table n ps r.0) (length-append cores front) r.1, refl)), r.2 ∙ append_assoc cores front r.0)

-- where cores are found for all parts, they are typed
pub typed_of : (table : Table) (ps : List Part) (cores new : List CoreMember) → check_from table cores ps ≡ Ok new → TypedAs table cores ps new
unfolding check_from Typed
typed_of table [] cores new e = let h : new ≡ cores = cc in ([], refl, h ∙ sym (append-nil cores))
typed_of table (p ∷ ps) cores new e = typed_by table p ps cores new (λ next e. typed_of table ps next new e) (find_part table (length cores) p) refl e

taken : (table : Table) (p : Part) (ps : List Part) (cores front : List CoreMember) → TypedPart table (length cores) p front
    → by_part (find_part table (length cores) p) (line_of p) cores (λ next. check_from table next ps) ≡ check_from table (cores ++ front) ps
taken table p ps cores front t = ap (λ (o : Option (List CoreMember)). by_part o (line_of p) cores (λ next. check_from table next ps)) ((part_exact table (length cores) p front).1 t)

behind : (table : Table) (ps : List Part) (cores front bs : List CoreMember) → Typed table (length cores + length front) ps bs → Typed table (length (cores ++ front)) ps bs
behind table ps cores front bs t = subst (λ (n : ℕ). Typed table n ps bs) (sym (length-append cores front)) t

-- and where they are typed, cores are found
pub typed_to : (table : Table) (ps : List Part) (cores front : List CoreMember) → Typed table (length cores) ps front → check_from table cores ps ≡ Ok (cores ++ front)
unfolding check_from Typed
typed_to table [] cores front e = same_ok (sym (append-nil cores) ∙ ap (λ (v : List CoreMember). cores ++ v) (sym e))
typed_to table (p ∷ ps) cores front (a, t, (bs, ts, e)) =
    taken table p ps cores a t
    ∙ typed_to table ps (cores ++ a) bs (behind table ps cores a bs ts)
    ∙ same_ok (append_assoc cores a bs ∙ ap (λ (v : List CoreMember). cores ++ v) (sym e))

untyped_by : (table : Table) (p : Part) (ps : List Part) (cores : List CoreMember) (line : ℕ)
    → ((next : List CoreMember) → check_from table next ps ≡ Err line → FirstUntyped table (length next) ps line)
    → (o : Option (List CoreMember)) → find_part table (length cores) p ≡ o
    → by_part o (line_of p) cores (λ next. check_from table next ps) ≡ Err line
    → FirstUntyped table (length cores) (p ∷ ps) line
unfolding FirstUntyped
untyped_by table p ps cores line rest None h e =
    let l : line ≡ line_of p = cc in
    inl ((λ cs t. let k = (part_exact table (length cores) p cs).1 t in cc), l)
untyped_by table p ps cores line rest (Some front) h e =
    inr (front, (part_exact table (length cores) p front).0 h, subst (λ (n : ℕ). FirstUntyped table n ps line) (length-append cores front) (rest (cores ++ front) e))

-- where a line is found, the first part that is not typed begins there
pub untyped_of : (table : Table) (ps : List Part) (cores : List CoreMember) (line : ℕ) → check_from table cores ps ≡ Err line → FirstUntyped table (length cores) ps line
unfolding check_from FirstUntyped
untyped_of table [] cores line e = cc
untyped_of table (p ∷ ps) cores line e = untyped_by table p ps cores line (λ next e. untyped_of table ps next line e) (find_part table (length cores) p) refl e

none_by : (table : Table) (p : Part) (ps : List Part) (cores : List CoreMember) (line : ℕ)
    → ((cs : List CoreMember) → TypedPart table (length cores) p cs → ⊥) → line ≡ line_of p
    → (o : Option (List CoreMember)) → find_part table (length cores) p ≡ o
    → by_part o (line_of p) cores (λ next. check_from table next ps) ≡ Err line
none_by table p ps cores line n l None h = same_err (sym l)
none_by table p ps cores line n l (Some front) h = absurd (n front ((part_exact table (length cores) p front).0 h))

pub untyped_to : (table : Table) (ps : List Part) (cores : List CoreMember) (line : ℕ) → FirstUntyped table (length cores) ps line → check_from table cores ps ≡ Err line
unfolding check_from FirstUntyped
untyped_to table [] cores line e = absurd e
untyped_to table (p ∷ ps) cores line (inl w) = none_by table p ps cores line w.0 w.1 (find_part table (length cores) p) refl
untyped_to table (p ∷ ps) cores line (inr (a, t, r)) =
    taken table p ps cores a t ∙ untyped_to table ps (cores ++ a) line (subst (λ (n : ℕ). FirstUntyped table n ps line) (sym (length-append cores a)) r)
