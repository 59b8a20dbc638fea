-- How a guide is computed from the size and the guides of the content: the closure of `.alignmentGuide`.
use Rattle.std.specs.Prelude.{◌≡◌, ℕ, ◌-◌, ◌+◌, ◌≤◌, ◌<◌, length, drop, slice_index_or, Result, zero, suc, ℤ, pos, ◌-ℤ◌, int_lt, List, [], ◌∷◌, Option, Some, None, codes, if◌then◌else◌}
use Rattle.std.specs.Ordering.{int_eq}
use Rattle.std.specs.Str.{bytes_eq}
use Rattle.std.proofs.Common.{refl, sym, ap, subst, ◌∙◌, arith}
use Rattle.align_guides.specs.declared.GuideExpr.{GuideExpr}
use Rattle.align_guides.specs.declared.GuideExpr.TheVariants as guide
use Rattle.swift_ast.specs.declared.tree.BinarySign.{BinarySign}
use Rattle.swift_ast.specs.declared.tree.BinarySign.TheVariants as sign
use Rattle.swift_ast.specs.declared.tree.PrefixSign.{PrefixSign}
use Rattle.swift_ast.specs.declared.tree.PrefixSign.TheVariants as prefix
use Rattle.swift_ast.specs.declared.tree.Expr.{Expr, out-Expr}
use Rattle.swift_ast.specs.declared.tree.ExprForm.{out-ExprForm}
use Rattle.swift_ast.specs.declared.tree.Link.{Link, out-Link}
use Rattle.swift_ast.specs.declared.tree.ArgValue.TheOpen.{ExprForm-F}
use Rattle.type_base.specs.Claims.{Reads, Then, and_then, or_else, reads_then, reads_give, reads_none, reads_is}
use Rattle.type_base.specs.Rules.{Answers}
use Rattle.type_base.specs.declared.fault.Fault.{Fault}
use Rattle.case_rules.specs.Each.{opened, ended}
use Rattle.modifier_rules.specs.Parts.{Word, qualified, indexed}
use Rattle.modifier_rules.specs.Named.{guide_of}
use Rattle.modifier_rules.specs.Lengths.{levels}

pub data GuideForm : Type 0 where
  Whole : ℤ → GuideForm
  Signed : List PrefixSign → Expr → GuideForm
  Joined : Expr → List Link → GuideForm
  Look : GuideForm

abbrev pub guide_form : Expr → GuideForm
guide_form e = elim (out-ExprForm (out-Expr e).form) [
  | ExprForm-F.Int n ↦ Whole n
  | ExprForm-F.Prefix signs x ↦ Signed signs x
  | ExprForm-F.Chain x links ↦ Joined x links
  | _ ↦ Look
]

-- a literal that can divide
abbrev pub divisor_by : GuideForm → (Expr → Option ℤ) → Option ℤ
divisor_by (Whole n) f = if int_eq n (pos 0) then None else Some n
divisor_by (Signed (prefix.Minus ∷ []) x) f = f x
divisor_by _ f = None

-- a number above zero, with its sign changed
abbrev pub negative_by : GuideForm → Option ℤ
negative_by (Whole n) = if int_lt (pos 0) n then Some (pos 0 -ℤ n) else None
negative_by _ = None

-- a literal other than zero, which may have a `-`
abbrev pub divisor_of : Expr → Option ℤ
divisor_of e = divisor_by (guide_form e) (λ x. negative_by (guide_form x))

-- `d.width` and `d.height`
abbrev pub side_named : Word → Word → Word → Option GuideExpr
side_named d w v =
    if bytes_eq w d then
    (if bytes_eq v (codes "width") then Some guide.Width
    else (if bytes_eq v (codes "height") then Some guide.Height else None))
    else None

-- `d[a]`
abbrev pub guide_at : Word → Word → Expr → Option GuideExpr
guide_at d w i = if bytes_eq w d then and_then (guide_of i) (λ k. Some (guide.Guide k)) else None

abbrev pub side_of : Word → Expr → Option GuideExpr
side_of d e = and_then (qualified e) (λ x. side_named d x.0 x.1)

-- what is read of d, the parameter of the closure; `_` names nothing
abbrev pub look_of : Word → Expr → Option GuideExpr
look_of d e =
    if bytes_eq d (codes "_") then None
    else or_else (side_of d e) (and_then (indexed e) (λ x. guide_at d x.0 x.1))

abbrev pub minus : GuideExpr → GuideExpr
minus x = guide.Difference (guide.Literal (pos 0)) x

-- each `-` is a difference from zero
abbrev pub negated : List PrefixSign → GuideExpr → Option GuideExpr
negated [] g = Some g
negated (prefix.Minus ∷ signs) g = and_then (negated signs g) (λ x. Some (minus x))
negated (prefix.Not ∷ signs) g = None

abbrev pub GuideRule : Type 1
GuideRule = Expr → GuideExpr → Type 0

abbrev pub FindGuide : Type 0
FindGuide = Expr → Option GuideExpr

abbrev pub sign_of : Link → BinarySign
sign_of l = (out-Link l).sign

abbrev pub right_of : Link → Expr
right_of l = (out-Link l).right

abbrev pub joined : BinarySign → GuideExpr → GuideExpr → Option GuideExpr
joined sign.Plus g x = Some (guide.Sum g x)
joined sign.Minus g x = Some (guide.Difference g x)
joined sign.Times g x = Some (guide.Product g x)
joined _ g x = None

abbrev pub quotient : GuideExpr → Expr → Option GuideExpr
quotient g e = and_then (divisor_of e) (λ n. Some (guide.Quotient g n))

-- one operator: k is the rule of the expressions inside; what divides is a literal
unfoldable pub LinkBy : GuideRule → GuideExpr → BinarySign → Expr → GuideExpr → Type 0
LinkBy k g sign.Divide e r = quotient g e ≡ Some r
LinkBy k g s e r = (x : GuideExpr) × k e x × (joined s g x ≡ Some r)

unfoldable pub link_by : FindGuide → GuideExpr → BinarySign → Expr → Option GuideExpr
link_by f g sign.Divide e = quotient g e
link_by f g s e = and_then (f e) (λ x. joined s g x)

-- operators go from left to right
unfoldable pub LinksBy : GuideRule → GuideExpr → List Link → GuideExpr → Type 0
LinksBy k g [] r = r ≡ g
LinksBy k g (l ∷ links) r = (x : GuideExpr) × LinkBy k g (sign_of l) (right_of l) x × LinksBy k x links r

unfoldable pub links_by : FindGuide → GuideExpr → List Link → Option GuideExpr
links_by f g [] = Some g
links_by f g (l ∷ links) = and_then (link_by f g (sign_of l) (right_of l)) (λ x. links_by f x links)

unfoldable pub GuideBy : GuideRule → Word → Expr → GuideForm → GuideExpr → Type 0
GuideBy k d e (Whole n) r = r ≡ guide.Literal n
GuideBy k d e (Signed signs x) r = (y : GuideExpr) × k x y × (negated signs y ≡ Some r)
GuideBy k d e (Joined x links) r = (y : GuideExpr) × k x y × LinksBy k y links r
GuideBy k d e Look r = look_of d e ≡ Some r

unfoldable pub guide_by : FindGuide → Word → Expr → GuideForm → Option GuideExpr
guide_by f d e (Whole n) = Some (guide.Literal n)
guide_by f d e (Signed signs x) = and_then (f x) (λ y. negated signs y)
guide_by f d e (Joined x links) = and_then (f x) (λ y. links_by f y links)
guide_by f d e Look = look_of d e

unfoldable pub GuideTo : ℕ → Word → GuideRule
GuideTo zero d e r = ⊥
GuideTo (suc n) d e r = GuideBy (GuideTo n d) d e (guide_form e) r

unfoldable pub guide_to : ℕ → Word → FindGuide
guide_to zero d e = None
guide_to (suc n) d e = guide_by (guide_to n d) d e (guide_form e)

-- E of `.alignmentGuide(a) { d in E }`
unfoldable pub GuideOf : Word → GuideRule
GuideOf = GuideTo levels

unfoldable pub find_guide : Word → FindGuide
find_guide = guide_to levels

-- ---- laws

abbrev pub ExactGuide : FindGuide → GuideRule → Type 0
ExactGuide f k = (e : Expr) → Reads (f e) (k e)

link_exact : {f : FindGuide} {k : GuideRule} → ExactGuide f k → (g : GuideExpr) (s : BinarySign) (e : Expr) → Reads (link_by f g s e) (LinkBy k g s e)
unfolding link_by LinkBy Then
link_exact h g sign.Divide e = reads_is _
link_exact h g s e = reads_then (h e) (λ x. reads_is _)

links_exact : {f : FindGuide} {k : GuideRule} → ExactGuide f k → (g : GuideExpr) (links : List Link) → Reads (links_by f g links) (LinksBy k g links)
unfolding links_by LinksBy Then
links_exact h g [] = reads_give _
links_exact h g (l ∷ links) = reads_then (link_exact h g _ _) (λ x. links_exact h x links)

guide_by_exact : {f : FindGuide} {k : GuideRule} → ExactGuide f k → (d : Word) (e : Expr) (form : GuideForm) → Reads (guide_by f d e form) (GuideBy k d e form)
unfolding guide_by GuideBy Then
guide_by_exact h d e (Whole n) = reads_give _
guide_by_exact h d e (Signed signs x) = reads_then (h x) (λ y. reads_is _)
guide_by_exact h d e (Joined x links) = reads_then (h x) (λ y. links_exact h y links)
guide_by_exact h d e Look = reads_is _

guide_to_exact : (n : ℕ) (d : Word) → ExactGuide (guide_to n d) (GuideTo n d)
unfolding guide_to GuideTo
guide_to_exact zero d e = reads_none
guide_to_exact (suc n) d e = guide_by_exact (guide_to_exact n d) d e (guide_form e)

pub guide_exact : (d : Word) (e : Expr) → Reads (find_guide d e) (GuideOf d e)
unfolding find_guide GuideOf
guide_exact d e = guide_to_exact levels d e

-- one level of the search
pub answers_none : (room : ℕ) (d : Word) (e : Expr) → room ≡ 0 → guide_to room d e ≡ None
unfolding guide_to
answers_none room d e h = ap (λ n. guide_to n d e) h

at_suc : (result : Result GuideExpr Fault) (m n : ℕ) (d : Word) (e : Expr) → suc m ≡ n → Answers result (guide_by (guide_to m d) d e (guide_form e)) → Answers result (guide_to n d e)
unfolding guide_to
at_suc result m n d e h p = subst (λ k. Answers result (guide_to k d e)) h p

pub answers_level : (result : Result GuideExpr Fault) (room : ℕ) (d : Word) (e : Expr) → 0 < room → Answers result (guide_by (guide_to (room - 1) d) d e (guide_form e)) → Answers result (guide_to room d e)
answers_level result room d e h p = at_suc result (room - 1) room d e (omega arith) p

-- one operator more, none more, and one that is refused
links_opened : (f : FindGuide) (g : GuideExpr) (links : List Link) (i : ℕ) (l : Link) → i < length links → l ≡ slice_index_or links i l
    → links_by f g (drop i links) ≡ and_then (link_by f g (sign_of l) (right_of l)) (λ x. links_by f x (drop (i + 1) links))
unfolding links_by
links_opened f g links i l lt is = ap (λ ls. links_by f g ls) (opened links i l lt) ∙ rw (sym is) refl

pub links_turn : (f : FindGuide) (first g : GuideExpr) (links : List Link) (i : ℕ) (l : Link) (x : GuideExpr) → i < length links → l ≡ slice_index_or links i l
    → link_by f g (sign_of l) (right_of l) ≡ Some x → links_by f first links ≡ links_by f g (drop i links) → links_by f first links ≡ links_by f x (drop (i + 1) links)
unfolding and_then
links_turn f first g links i l x lt is found h = h ∙ links_opened f g links i l lt is ∙ ap (λ o. and_then o (λ y. links_by f y (drop (i + 1) links))) found

pub links_none : (f : FindGuide) (first g : GuideExpr) (links : List Link) (i : ℕ) (l : Link) → i < length links → l ≡ slice_index_or links i l
    → link_by f g (sign_of l) (right_of l) ≡ None → links_by f first links ≡ links_by f g (drop i links) → links_by f first links ≡ None
unfolding and_then
links_none f first g links i l lt is found h = h ∙ links_opened f g links i l lt is ∙ ap (λ o. and_then o (λ y. links_by f y (drop (i + 1) links))) found

pub links_end : (f : FindGuide) (first g : GuideExpr) (links : List Link) (i : ℕ) → length links ≤ i → links_by f first links ≡ links_by f g (drop i links) → links_by f first links ≡ Some g
unfolding links_by
links_end f first g links i le h = h ∙ ap (λ ls. links_by f g ls) (ended links i le)
