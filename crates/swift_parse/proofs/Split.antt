-- The forms of a member, told apart by what stands at their front.
use Rattle.std.proofs.Common.{◌≡◌, ℕ, Bool, true, false, List, [], ◌∷◌, refl, sym, ap, subst, ◌∙◌, codes, inl, inr, ◌⊎◌}
use Rattle.std.specs.Prelude.{Option, Some, None, is_some}
use Rattle.std.specs.Str.{bytes_eq}
use Rattle.std.proofs.lemmas.Slice.Eq.{bytes_eq-Decides}
use Rattle.swift_lex.specs.declared.token.Token.{Token}
use Rattle.swift_lex.specs.declared.token.TokenKind.{TokenKind}
use Rattle.swift_lex.specs.declared.token.TokenKind.TheVariants as kind
use Rattle.swift_ast.specs.declared.type_name.TypeName.{TypeName}
use Rattle.swift_ast.specs.declared.tree.Binder.{Binder}
use Rattle.swift_ast.specs.declared.tree.Binder.TheVariants as binder
use Rattle.swift_ast.specs.declared.tree.Expr.{Expr}
use Rattle.swift_ast.specs.declared.tree.Stmt.{Stmt}
use Rattle.swift_ast.specs.declared.piece.ResultName.{ResultName}
use Rattle.swift_ast.specs.declared.piece.ResultName.TheVariants as result_name
use Rattle.swift_ast.specs.declared.piece.MemberForm.{MemberForm}
use Rattle.swift_ast.specs.declared.piece.MemberForm.TheVariants as member_form
use Rattle.parse_base.specs.Tokens.{is_reserved}
use Rattle.parse_base.specs.Language.{Language, One, Both, Then, Made, Either, Perhaps}
use Rattle.parse_base.specs.Terminals.{only_if, a_sign, a_word, a_name}
use Rattle.parse_base.proofs.Seen.{only_some, word_is}
use Rattle.parse_terms.specs.Types.{SpellsType}
use Rattle.parse_terms.specs.Words.{a_binder, binder_by, binder_word}
use Rattle.swift_parse.specs.Below.{Languages}
use Rattle.swift_parse.specs.Words.{stored}
use Rattle.swift_parse.specs.Grammar.{Declared, Opaque, ResultOf, Value, Braces, Stored, Computed, Function, FormOf}

module _ (L : Languages) where
  unfoldable pub LetForm : Language MemberForm
  LetForm = Made (λ x. member_form.Stored binder.Let x.1.0 x.1.1.0 x.1.1.1) (Both (One (a_word (codes "let"))) (Both (One a_name) (Both Declared (Perhaps (Value L)))))

  unfoldable pub Typed : List ℕ → TypeName → Language MemberForm
  Typed name type = Either (Made (λ b. member_form.Computed name (result_name.Plain type) b) (Braces L)) (Made (λ v. member_form.Stored binder.Var name (Some type) v) (Perhaps (Value L)))

  unfoldable pub Coloned : List ℕ → Language MemberForm
  Coloned name = Either (Made (λ x. member_form.Computed name x.0 x.1) (Both Opaque (Braces L))) (Made (λ x. x.1) (Then SpellsType (Typed name)))

  unfoldable pub Named : List ℕ → Language MemberForm
  Named name = Either (Made (λ x. x.1) (Both (One (a_sign (codes ":"))) (Coloned name))) (Made (λ v. member_form.Stored binder.Var name None v) (Perhaps (Value L)))

  unfoldable pub VarForm : Language MemberForm
  VarForm = Made (λ x. x.1.1) (Both (One (a_word (codes "var"))) (Then (One a_name) Named))

  unfoldable pub SplitForm : Language MemberForm
  SplitForm = Either (Function L) (Either LetForm VarForm)

-- ---- the words `let` and `var`

word_binder : (w : List ℕ) (b : Binder) → binder_word w ≡ Some b → (t : Token) (rest : List Token) (x : Unit {0}) → a_word w t rest ≡ Some x → a_binder t rest ≡ Some b
word_binder w b e t rest x h = rw (word_is w t.kind (only_some (is_reserved w t) tt x h)) e

one_binder : (w : List ℕ) (b : Binder) → binder_word w ≡ Some b → (ts rest : List Token) (x : Unit {0}) → One (a_word w) ts x rest → One a_binder ts b rest
unfolding One
one_binder w b e ts rest x o = (o.0, o.1, word_binder w b e o.0 rest x o.2)

some_binder : (a b : Binder) → ◌≡◌ {A = Option Binder} (Some a) (Some b) → a ≡ b
some_binder a b e = cc

let_or_var : (w : List ℕ) (b : Binder) → binder_word w ≡ Some b → ((b ≡ binder.Let) × (w ≡ codes "let")) ⊎ ((b ≡ binder.Var) × (w ≡ codes "var"))
let_or_var w b e = by_let w b e (bytes_eq w (codes "let")) refl
  where
    by_var : (w : List ℕ) (b : Binder) → only_if (bytes_eq w (codes "var")) binder.Var ≡ Some b → (c : Bool) → bytes_eq w (codes "var") ≡ c → ((b ≡ binder.Let) × (w ≡ codes "let")) ⊎ ((b ≡ binder.Var) × (w ≡ codes "var"))
    by_var w b e true is = let s : ◌≡◌ {A = Option Binder} (Some binder.Var) (Some b) = rw is at e in inr (sym (some_binder binder.Var b s), (bytes_eq-Decides w (codes "var")).0 is)
    by_var w b e false is = let s : ◌≡◌ {A = Option Binder} None (Some b) = rw is at e in absurd cc

    by_let : (w : List ℕ) (b : Binder) → binder_word w ≡ Some b → (c : Bool) → bytes_eq w (codes "let") ≡ c → ((b ≡ binder.Let) × (w ≡ codes "let")) ⊎ ((b ≡ binder.Var) × (w ≡ codes "var"))
    by_let w b e true is = let s : ◌≡◌ {A = Option Binder} (Some binder.Let) (Some b) = rw is at e in inl (sym (some_binder binder.Let b s), (bytes_eq-Decides w (codes "let")).0 is)
    by_let w b e false is = let s : only_if (bytes_eq w (codes "var")) binder.Var ≡ Some b = rw is at e in by_var w b s (bytes_eq w (codes "var")) refl

binder_reserved : (k : TokenKind) (b : Binder) → binder_by k ≡ Some b → (w : List ℕ) × (k ≡ kind.Reserved w) × (binder_word w ≡ Some b)
binder_reserved (kind.Reserved w) b e = (w, refl, e)
binder_reserved (kind.Name w) b e = absurd cc
binder_reserved (kind.Dollar w) b e = absurd cc
binder_reserved (kind.AtName w) b e = absurd cc
binder_reserved (kind.HashName w) b e = absurd cc
binder_reserved (kind.Sign w) b e = absurd cc
binder_reserved (kind.Int n) b e = absurd cc
binder_reserved kind.StrOpen b e = absurd cc
binder_reserved (kind.StrText w) b e = absurd cc
binder_reserved kind.StrHole b e = absurd cc
binder_reserved kind.StrClose b e = absurd cc

-- a binder is one of the two words
binder_one : (ts rest : List Token) (b : Binder) → One a_binder ts b rest
    → ((b ≡ binder.Let) × One (a_word (codes "let")) ts tt rest) ⊎ ((b ≡ binder.Var) × One (a_word (codes "var")) ts tt rest)
unfolding One
binder_one ts rest b o =
    let r = binder_reserved o.0.kind b o.2 in
    elim (let_or_var r.0 b r.2) [
      | inl h ↦ inl (h.0, (o.0, o.1, rw (r.1, h.1) refl))
      | inr h ↦ inr (h.0, (o.0, o.1, rw (r.1, h.1) refl))
    ]

-- ---- both ways

module _ (L : Languages) where
  from_let : (ts : List Token) (x : MemberForm) (rest : List Token) → LetForm L ts x rest → FormOf L ts x rest
  unfolding LetForm FormOf Stored Made Both Either
  from_let ts x rest d = inl ((binder.Let, d.0.1), (d.1.0, one_binder (codes "let") binder.Let refl ts d.1.0 d.0.0 d.1.1, d.1.2), d.2)

  from_typed : (ts mid1 mid2 mid3 mid4 rest : List Token) (u v : Unit {0}) (name : List ℕ) (type : TypeName) (x : MemberForm) → One (a_word (codes "var")) ts u mid1 → One a_name mid1 name mid2
      → One (a_sign (codes ":")) mid2 v mid3 → SpellsType mid3 type mid4 → Typed L name type mid4 x rest → FormOf L ts x rest
  unfolding Typed FormOf Stored Computed ResultOf Declared Made Both Either Perhaps
  from_typed ts mid1 mid2 mid3 mid4 rest u v name type x var named colon spelled d = elim d [
    | inl b ↦ inr (inl ((u, (name, (v, (result_name.Plain type, b.0)))), (mid1, var, (mid2, named, (mid3, colon, (mid4, inr (type, spelled, refl), b.1)))), b.2))
    | inr b ↦ inl ((binder.Var, (name, (Some type, b.0))), (mid1, one_binder (codes "var") binder.Var refl ts mid1 u var, (mid2, named, (mid4, ((v, type), (mid3, colon, spelled), refl), b.1))), b.2)
  ]

  from_coloned : (ts mid1 mid2 mid3 rest : List Token) (u v : Unit {0}) (name : List ℕ) (x : MemberForm) → One (a_word (codes "var")) ts u mid1 → One a_name mid1 name mid2
      → One (a_sign (codes ":")) mid2 v mid3 → Coloned L name mid3 x rest → FormOf L ts x rest
  unfolding Coloned FormOf Computed ResultOf Made Both Then Either
  from_coloned ts mid1 mid2 mid3 rest u v name x var named colon d = elim d [
    | inl o ↦ inr (inl ((u, (name, (v, (o.0.0, o.0.1)))), (mid1, var, (mid2, named, (mid3, colon, (o.1.0, inl o.1.1, o.1.2)))), o.2))
    | inr t ↦ subst (λ (y : MemberForm). FormOf L ts y rest) (sym t.2) (from_typed ts mid1 mid2 mid3 t.1.0 rest u v name t.0.0 t.0.1 var named colon t.1.1 t.1.2)
  ]

  from_named : (ts mid1 mid2 rest : List Token) (u : Unit {0}) (name : List ℕ) (x : MemberForm) → One (a_word (codes "var")) ts u mid1 → One a_name mid1 name mid2
      → Named L name mid2 x rest → FormOf L ts x rest
  unfolding Named FormOf Stored Declared Made Both Either Perhaps
  from_named ts mid1 mid2 rest u name x var named d = elim d [
    | inl c ↦ subst (λ (y : MemberForm). FormOf L ts y rest) (sym c.2) (from_coloned ts mid1 mid2 c.1.0 rest u c.0.0 name c.0.1 var named c.1.1 c.1.2)
    | inr b ↦ inl ((binder.Var, (name, (None, b.0))), (mid1, one_binder (codes "var") binder.Var refl ts mid1 u var, (mid2, named, (mid2, refl, b.1))), b.2)
  ]

  from_var : (ts : List Token) (x : MemberForm) (rest : List Token) → VarForm L ts x rest → FormOf L ts x rest
  unfolding VarForm Made Both Then
  from_var ts x rest d = subst (λ (y : MemberForm). FormOf L ts y rest) (sym d.2) (from_named ts d.1.0 d.1.2.0 rest d.0.0 d.0.1.0 d.0.1.1 d.1.1 d.1.2.1 d.1.2.2)

  pub split_is_form : (ts : List Token) (x : MemberForm) (rest : List Token) → SplitForm L ts x rest → FormOf L ts x rest
  unfolding SplitForm FormOf Either
  split_is_form ts x rest d = elim d [
    | inl f ↦ inr (inr f)
    | inr h ↦ elim h [ inl l ↦ from_let ts x rest l | inr v ↦ from_var ts x rest v ]
  ]

  to_var_declared : (mid2 mid3 rest : List Token) (name : List ℕ) (type : Option TypeName) (value : Option Expr) → Declared mid2 type mid3 → Perhaps (Value L) mid3 value rest
      → Named L name mid2 (member_form.Stored binder.Var name type value) rest
  unfolding Declared Named Coloned Typed Made Both Then Either Perhaps
  to_var_declared mid2 mid3 rest name None value d v = inr (value, subst (λ (m : List Token). Perhaps (Value L) m value rest) (sym d) v, refl)
  to_var_declared mid2 mid3 rest name (Some type) value d v =
      let spelled = subst (λ (y : TypeName). SpellsType d.1.0 y mid3) (sym d.2) d.1.2 in
      inl ((d.0.0, member_form.Stored binder.Var name (Some type) value), (d.1.0, d.1.1, inr ((type, member_form.Stored binder.Var name (Some type) value), (mid3, spelled, inr (value, v, refl)), refl)), refl)

  to_stored : (ts : List Token) (x : MemberForm) (rest : List Token) → Stored L ts x rest → SplitForm L ts x rest
  unfolding Stored SplitForm LetForm VarForm Made Both Then Either
  to_stored ts x rest d = elim (binder_one ts d.1.0 d.0.0 d.1.1) [
    | inl h ↦ inr (inl ((tt, d.0.1), (d.1.0, h.1, d.1.2), d.2 ∙ ap (λ (b : Binder). stored (b, d.0.1)) h.0))
    | inr h ↦
        let made : x ≡ member_form.Stored binder.Var d.0.1.0 d.0.1.1.0 d.0.1.1.1 = d.2 ∙ ap (λ (b : Binder). stored (b, d.0.1)) h.0 in
        let form = to_var_declared d.1.2.0 d.1.2.2.0 rest d.0.1.0 d.0.1.1.0 d.0.1.1.1 d.1.2.2.1 d.1.2.2.2 in
        inr (inr ((tt, (d.0.1.0, member_form.Stored binder.Var d.0.1.0 d.0.1.1.0 d.0.1.1.1)), (d.1.0, h.1, (d.1.2.0, d.1.2.1, form)), made))
  ]

  to_result : (mid2 mid3 mid4 rest : List Token) (v : Unit {0}) (name : List ℕ) (result : ResultName) (body : List Stmt) → One (a_sign (codes ":")) mid2 v mid3 → ResultOf mid3 result mid4 → Braces L mid4 body rest
      → Named L name mid2 (member_form.Computed name result body) rest
  unfolding ResultOf Named Coloned Typed Made Both Then Either
  to_result mid2 mid3 mid4 rest v name result body colon r b = elim r [
    | inl o ↦ inl ((v, member_form.Computed name result body), (mid3, colon, inl ((result, body), (mid4, o, b), refl)), refl)
    | inr p ↦
        let same : member_form.Computed name result body ≡ member_form.Computed name (result_name.Plain p.0) body = ap (λ (y : ResultName). member_form.Computed name y body) p.2 in
        inl ((v, member_form.Computed name result body), (mid3, colon, inr ((p.0, member_form.Computed name result body), (mid4, p.1, inl (body, b, same)), refl)), refl)
  ]

  to_computed : (ts : List Token) (x : MemberForm) (rest : List Token) → Computed L ts x rest → SplitForm L ts x rest
  unfolding Computed SplitForm VarForm Made Both Then Either
  to_computed ts x rest d =
      let form = to_result d.1.2.0 d.1.2.2.0 d.1.2.2.2.0 rest d.0.1.1.0 d.0.1.0 d.0.1.1.1.0 d.0.1.1.1.1 d.1.2.2.1 d.1.2.2.2.1 d.1.2.2.2.2 in
      inr (inr ((d.0.0, (d.0.1.0, member_form.Computed d.0.1.0 d.0.1.1.1.0 d.0.1.1.1.1)), (d.1.0, d.1.1, (d.1.2.0, d.1.2.1, form)), d.2))

  pub form_is_split : (ts : List Token) (x : MemberForm) (rest : List Token) → FormOf L ts x rest → SplitForm L ts x rest
  unfolding FormOf SplitForm Either
  form_is_split ts x rest d = elim d [
    | inl s ↦ to_stored ts x rest s
    | inr h ↦ elim h [ inl c ↦ to_computed ts x rest c | inr f ↦ inl f ]
  ]
