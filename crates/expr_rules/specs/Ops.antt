-- The typing rules of the forms of expressions, over the rules of the expressions inside. Chains of postfix parts stand apart.
-- After The Swift Programming Language, 'Expressions'.
use Rattle.std.specs.Prelude.{◌≡◌, ◌≢◌, ℕ, Bool, true, false, List, [], ◌∷◌, ◌++◌, Option, Some, None, ◌⊎◌, slice_get, if◌then◌else◌}
use Rattle.std.specs.Str.{is_utf8}
use Rattle.sv_value.specs.declared.value.Value.{Value}
use Rattle.sv_value.specs.declared.value.Value.TheVariants as value
use Rattle.value_calls.specs.declared.operators.Arithmetic.TheVariants as arithmetic
use Rattle.value_calls.specs.declared.operators.Comparison.TheVariants as comparison
use Rattle.value_calls.specs.declared.operators.Operator.TheVariants as operator
use Rattle.value_calls.specs.declared.operators.Unary.TheVariants as single
use Rattle.swift_ast.specs.declared.tree.ArgValue.{ArgValue}
use Rattle.swift_ast.specs.declared.tree.ArgValue.TheOpen.{ExprForm-F, StringPart-F}
use Rattle.swift_ast.specs.declared.tree.Arg.{Arg}
use Rattle.swift_ast.specs.declared.tree.Arm.{Arm}
use Rattle.swift_ast.specs.declared.tree.BinarySign.{BinarySign}
use Rattle.swift_ast.specs.declared.tree.BinarySign.TheVariants as sign
use Rattle.swift_ast.specs.declared.tree.Closure.{Closure}
use Rattle.swift_ast.specs.declared.tree.Condition.{Condition}
use Rattle.swift_ast.specs.declared.tree.Expr.{Expr, out-Expr}
use Rattle.swift_ast.specs.declared.tree.ExprForm.{ExprForm, out-ExprForm}
use Rattle.swift_ast.specs.declared.tree.LabelledClosure.{LabelledClosure}
use Rattle.swift_ast.specs.declared.tree.Link.{Link, out-Link}
use Rattle.swift_ast.specs.declared.tree.Part.{Part}
use Rattle.swift_ast.specs.declared.tree.PrefixSign.{PrefixSign}
use Rattle.swift_ast.specs.declared.tree.PrefixSign.TheVariants as prefix
use Rattle.swift_ast.specs.declared.tree.Stmt.{Stmt}
use Rattle.swift_ast.specs.declared.tree.StmtForm.{StmtForm}
use Rattle.swift_ast.specs.declared.tree.StringPart.{StringPart, out-StringPart}
use Rattle.swift_ast.specs.declared.tree.SwitchCase.{SwitchCase}
use Rattle.swift_ast.specs.declared.tree.Tail.{Tail}
use Rattle.swift_core.specs.declared.ids.CodeId.{CodeId}
use Rattle.swift_core.specs.declared.ids.PlaceRule.TheVariants as place
use Rattle.swift_core.specs.declared.table.Declaration.{Declaration}
use Rattle.swift_core.specs.declared.table.EnvironmentKey.{EnvironmentKey}
use Rattle.swift_core.specs.declared.table.Signature.{Signature}
use Rattle.swift_core.specs.declared.table.SignatureForm.{SignatureForm}
use Rattle.swift_core.specs.declared.table.SignatureForm.TheVariants as form
use Rattle.swift_core.specs.declared.term.Binary.{Binary}
use Rattle.swift_core.specs.declared.term.Binary.TheVariants as binary
use Rattle.swift_core.specs.declared.term.Core.{Core}
use Rattle.swift_core.specs.declared.term.Core.TheVariants as core
use Rattle.swift_core.specs.declared.term.Invocation.{roll-Invocation}
use Rattle.swift_core.specs.declared.term.Lookup.TheVariants as lookup
use Rattle.swift_core.specs.declared.term.Piece.{Piece}
use Rattle.swift_core.specs.declared.term.Piece.TheVariants as piece
use Rattle.swift_core.specs.declared.term.Receiver.TheVariants as receiver
use Rattle.swift_core.specs.declared.term.Unary.TheVariants as unary
use Rattle.swift_core.specs.declared.ty.Ty.{Ty, out-Ty, fold-Ty}
use Rattle.swift_core.specs.declared.ty.Ty.TheOpen.{Ty-F}
use Rattle.swift_core.specs.declared.ty.Ty.TheVariants as ty
use Rattle.swift_core.specs.Types.{inside_at, element_at}
use Rattle.type_base.specs.Context.{Context}
use Rattle.type_base.specs.Names.{IsLocal, IsOwn, IsOwner, IsMember, underscore}
use Rattle.type_base.specs.Promotion.{Stands, Wanted}
use Rattle.type_base.specs.Rules.{Rule}
use Rattle.type_base.specs.declared.scope.Local.{Local}
use Rattle.type_base.specs.declared.scope.LocalKind.{LocalKind}
use Rattle.type_base.specs.declared.scope.LocalKind.TheVariants as kind
use Rattle.type_base.specs.declared.scope.Stance.{Stance}
use Rattle.type_base.specs.declared.scope.Stance.TheVariants as stance

-- one level of an expression
abbrev pub Form : Type 0
Form = ExprForm-F ArgValue Condition ExprForm Part StmtForm StringPart Arg Arm Closure Expr LabelledClosure Link Stmt SwitchCase Tail

abbrev pub form_of : Expr → Form
form_of e = out-ExprForm (out-Expr e).form

-- one level of a part of a string
abbrev pub StringForm : Type 0
StringForm = StringPart-F ArgValue Condition ExprForm Part StmtForm StringPart Arg Arm Closure Expr LabelledClosure Link Stmt SwitchCase Tail

-- ---- literals

-- a value that is written has its type
unfoldable pub Constant : Value → Ty → Rule
Constant v t cx want r = r ≡ (core.Literal v, t)

-- `nil`, where an optional is expected
unfoldable pub Nil : Rule
Nil cx want r =
    (t : Ty) × (want ≡ Some t) ×
    ((u : Ty) × (inside_at (out-Ty t) ≡ Some u) ×
    (r ≡ (core.Literal (value.Opt None), t)))

-- what may stand in `\( )`
abbrev pub is_shown : Ty-F Ty → Bool
is_shown Ty-F.Int = true
is_shown Ty-F.Bool = true
is_shown Ty-F.Text = true
is_shown _ = false

-- a part of a string: text, or an expression of type Int, Bool or String
unfoldable pub PieceOf : (Expr → Rule) → StringForm → Context → Piece → Type 0
PieceOf k (StringPart-F.StringPart::Text w) cx p = (is_utf8 w ≡ true) × (p ≡ piece.Text w)
PieceOf k (StringPart-F.Hole e) cx p =
    (x : Core × Ty) × k e cx None x ×
    ((is_shown (out-Ty x.1) ≡ true) ×
    (p ≡ piece.Hole x.0))

unfoldable pub Pieces : (Expr → Rule) → List StringPart → Context → List Piece → Type 0
Pieces k [] cx ps = ps ≡ []
Pieces k (s ∷ ss) cx ps =
    (p : Piece) × PieceOf k (out-StringPart s) cx p ×
    ((rest : List Piece) × Pieces k ss cx rest ×
    (ps ≡ p ∷ rest))

-- the text of a part that is one, and of parts that all are
abbrev pub text_at : StringForm → Option (List ℕ)
text_at (StringPart-F.StringPart::Text w) = Some w
text_at _ = None

abbrev pub joined_to : Option (List ℕ) → Option (List ℕ) → Option (List ℕ)
joined_to (Some v) (Some w) = Some (v ++ w)
joined_to _ _ = None

unfoldable pub text_of : List StringPart → Option (List ℕ)
text_of [] = Some []
text_of (s ∷ ss) = joined_to (text_at (out-StringPart s)) (text_of ss)

-- a string without `\( )` is a literal; with one, its parts are put together
unfoldable pub TextOf : (Expr → Rule) → List StringPart → Rule
TextOf k ss cx want r =
    ((w : List ℕ) × (text_of ss ≡ Some w) × ((is_utf8 w ≡ true) × (r ≡ (core.Literal (value.Str w), ty.Text))))
    ⊎ (((w : List ℕ) → text_of ss ≡ Some w → ⊥) × ((ps : List Piece) × Pieces k ss cx ps × (r ≡ (core.Text ps, ty.Text))))

-- ---- names

-- `self` where a member of a data struct or of an enum is written
abbrev pub has_self : Stance → Bool
has_self stance.Data = true
has_self stance.Mutating = true
has_self _ = false

unfoldable pub Myself : Rule
Myself cx want r =
    (has_self cx.stance ≡ true) ×
    ((owner : ℕ × Declaration) × IsOwner cx owner ×
    (r ≡ (core.Look lookup.Itself, ty.Named owner.0)))

-- a local's value; a function that is a local has none as it stands
abbrev pub local_value : ℕ → LocalKind → Option Core
local_value at kind.Let = Some (core.Look (lookup.Local at))
local_value at kind.Var = Some (core.Look (lookup.Local at))
local_value at kind.Place = Some (core.Look (lookup.BoundLocal at))
local_value at kind.Next = None

-- a core of a type that is known
abbrev pub typed_core : Core → Option Ty → Option (Core × Ty)
typed_core c (Some t) = Some (c, t)
typed_core c None = None

-- a property of `self` that is computed
abbrev pub computed : CodeId → Core
computed code = core.Invoke (roll-Invocation (record { code = code; receiver = receiver.Same; arguments = [] }))

-- what is read of an environment key
abbrev pub key_type : Option EnvironmentKey → Option Ty
key_type (Some key) = key.ty
key_type None = None

-- in a view its own properties are named, but for statics
abbrev pub view_value : List EnvironmentKey → CodeId → SignatureForm → Option (Core × Ty)
view_value keys code (form.Stored at b t a) = typed_core (core.Look (lookup.Input at)) t
view_value keys code (form.State at t a) = typed_core (core.Look (lookup.Slot (place.Own at))) t
view_value keys code (form.Binding at t) = typed_core (core.Look (lookup.BoundInput at)) t
view_value keys code (form.Environment key) = typed_core (core.Look (lookup.Environment key)) (key_type (slice_get keys key))
view_value keys code (form.Computed t) = typed_core (computed code) t
view_value keys code _ = None

-- in a data struct or an enum
abbrev pub data_value : CodeId → SignatureForm → Option (Core × Ty)
data_value code (form.Stored at b t a) = typed_core (core.Look (lookup.OwnField at)) t
data_value code (form.Computed t) = typed_core (computed code) t
data_value code _ = None

-- in a static member of a preference key its static properties
abbrev pub key_value : CodeId → SignatureForm → Option (Core × Ty)
key_value code (form.Static t) = typed_core (core.Static code) t
key_value code _ = None

-- the value of a property of `self` that is named, by what `self` is; an initial value names none
unfoldable pub own_value : Stance → List EnvironmentKey → CodeId → SignatureForm → Option (Core × Ty)
own_value stance.View keys code f = view_value keys code f
own_value stance.Data keys code f = data_value code f
own_value stance.Mutating keys code f = data_value code f
own_value stance.Key keys code f = key_value code f
own_value _ keys code f = None

-- the value of a name: a local, and else a member of `self`; the first that has the name decides
unfoldable pub Named : List ℕ → Rule
Named w cx want r =
    ((found : ℕ × Local) × IsLocal w cx found × ((c : Core) × (local_value found.0 found.1.kind ≡ Some c) × (r ≡ (c, found.1.ty))))
    ⊎ (((found : ℕ × Local) → IsLocal w cx found → ⊥) × ((w ≢ underscore) × ((m : ℕ × Signature) × IsOwn w cx m × (own_value cx.stance cx.table.environment m.1.code m.1.form ≡ Some r))))

abbrev pub named_below : Ty-F (Option ℕ) → Option ℕ
named_below (Ty-F.Named d) = Some d
named_below (Ty-F.Optional d) = d
named_below _ = None

-- the declaration that a type names, behind any number of `?`
unfoldable pub named_within : Ty → Option ℕ
named_within = fold-Ty (Option ℕ) named_below

-- the place of a case among the cases
abbrev pub case_place : SignatureForm → Option ℕ
case_place (form.Case at) = Some at
case_place _ = None

-- `.name`, where an enum is expected that has the case
unfoldable pub Implicit : List ℕ → Rule
Implicit w cx want r =
    (t : Ty) × (want ≡ Some t) ×
    ((d : ℕ) × (named_within t ≡ Some d) ×
    ((declaration : Declaration) × (slice_get cx.table.declarations d ≡ Some declaration) ×
    ((m : ℕ × Signature) × IsMember w declaration m ×
    ((at : ℕ) × (case_place m.1.form ≡ Some at) ×
    (r ≡ (core.Literal (value.Case d at), ty.Named d))))))

-- ---- lists

-- expressions where a type is expected of each
unfoldable pub AllWanted : (Expr → Rule) → List Expr → Context → Ty → List Core → Type 0
AllWanted k [] cx t cs = cs ≡ []
AllWanted k (e ∷ es) cx t cs =
    (c : Core) × Wanted (k e) cx t c ×
    ((rest : List Core) × AllWanted k es cx t rest ×
    (cs ≡ c ∷ rest))

-- the elements of a list, where their type is expected; else the first one decides, and an empty list has no type
unfoldable pub Elements : (Expr → Rule) → List Expr → Context → Option Ty → List Core × Ty → Type 0
Elements k es cx (Some t) r = (cs : List Core) × AllWanted k es cx t cs × (r ≡ (cs, t))
Elements k [] cx None r = ⊥
Elements k (e ∷ es) cx None r =
    (x : Core × Ty) × k e cx None x ×
    ((cs : List Core) × AllWanted k es cx x.1 cs ×
    (r ≡ (x.0 ∷ cs, x.1)))

-- the type that is expected of the elements where a list type is expected
abbrev pub element_of : Option Ty → Option Ty
element_of None = None
element_of (Some t) = element_at (out-Ty t)

-- `[a, b]`
unfoldable pub Listed : (Expr → Rule) → List Expr → Rule
Listed k es cx want r =
    (x : List Core × Ty) × Elements k es cx (element_of want) x ×
    (r ≡ (core.List x.0, ty.List x.1))

-- ---- operators

-- `-` of Int and `!` of Bool
abbrev pub prefix_at : PrefixSign → Core → Ty-F Ty → Option (Core × Ty)
prefix_at prefix.Minus c Ty-F.Int = Some (core.Unary (unary.Operate single.Negate) c, ty.Int)
prefix_at prefix.Not c Ty-F.Bool = Some (core.Unary (unary.Operate single.Not) c, ty.Bool)
prefix_at s c t = None

-- several prefix operators, of which the last is the innermost
unfoldable pub Signs : List PrefixSign → Core × Ty → Core × Ty → Type 0
Signs [] x r = r ≡ x
Signs (s ∷ ss) x r = (y : Core × Ty) × Signs ss x y × (prefix_at s y.0 (out-Ty y.1) ≡ Some r)

unfoldable pub Prefixed : List PrefixSign → Rule → Rule
Prefixed ss A cx want r = (x : Core × Ty) × A cx None x × Signs ss x r

-- the operators whose operands have one type: `+` of Int, String and lists, other arithmetic and comparisons of Int, `&&` and `||` of Bool
abbrev pub operator_at : BinarySign → Ty-F Ty → Option Binary
operator_at sign.Plus Ty-F.Int = Some (binary.Operate (operator.Compute arithmetic.Plus))
operator_at sign.Plus Ty-F.Text = Some (binary.Operate operator.JoinTexts)
operator_at sign.Plus (Ty-F.List t) = Some (binary.Operate operator.JoinLists)
operator_at sign.Minus Ty-F.Int = Some (binary.Operate (operator.Compute arithmetic.Minus))
operator_at sign.Times Ty-F.Int = Some (binary.Operate (operator.Compute arithmetic.Times))
operator_at sign.Divide Ty-F.Int = Some (binary.Operate (operator.Compute arithmetic.Divide))
operator_at sign.Remainder Ty-F.Int = Some (binary.Operate (operator.Compute arithmetic.Remainder))
operator_at sign.Less Ty-F.Int = Some (binary.Operate (operator.Compare comparison.Less))
operator_at sign.AtMost Ty-F.Int = Some (binary.Operate (operator.Compare comparison.LessOrEqual))
operator_at sign.Greater Ty-F.Int = Some (binary.Operate (operator.Compare comparison.Greater))
operator_at sign.AtLeast Ty-F.Int = Some (binary.Operate (operator.Compare comparison.GreaterOrEqual))
operator_at sign.And Ty-F.Bool = Some binary.And
operator_at sign.Or Ty-F.Bool = Some binary.Or
operator_at s t = None

-- whether the operator gives a Bool, and not the type of its operands
abbrev pub is_test : BinarySign → Bool
is_test sign.Less = true
is_test sign.AtMost = true
is_test sign.Greater = true
is_test sign.AtLeast = true
is_test _ = false

-- the left operand decides, and the right one has the same type
unfoldable pub Operated : BinarySign → Core × Ty → Rule → Context → Core × Ty → Type 0
Operated s x B cx r =
    (b : Binary) × (operator_at s (out-Ty x.1) ≡ Some b) ×
    ((y : Core × Ty) × B cx None y ×
    ((y.1 ≡ x.1) ×
    (r ≡ (core.Binary b x.0 y.0, if is_test s then ty.Bool else x.1))))

abbrev pub equality_at : BinarySign → Option Binary
equality_at sign.Equal = Some (binary.Operate operator.Equal)
equality_at sign.NotEqual = Some (binary.Operate operator.NotEqual)
equality_at _ = None

-- `==` and `!=`, of any type: the type of the left side is expected on the right
unfoldable pub Compared : Binary → Core × Ty → Rule → Context → Core × Ty → Type 0
Compared b x B cx r = (y : Core) × Wanted B cx x.1 y × (r ≡ (core.Binary b x.0 y, ty.Bool))

-- an operator and its right operand behind a left one
unfoldable pub Linked : BinarySign → Core × Ty → Rule → Context → Core × Ty → Type 0
Linked s x B cx r =
    ((b : Binary) × (equality_at s ≡ Some b) × Compared b x B cx r)
    ⊎ (((b : Binary) → equality_at s ≡ Some b → ⊥) × Operated s x B cx r)

-- operators of one rule group from the left
unfoldable pub Links : (Expr → Rule) → List Link → Core × Ty → Context → Core × Ty → Type 0
Links k [] x cx r = r ≡ x
Links k (l ∷ ls) x cx r =
    (y : Core × Ty) × Linked (out-Link l).sign x (k (out-Link l).right) cx y ×
    Links k ls y cx r

-- `a ?? b` of a that has t inside: b is expected to be a t, and the answer is one; where b is an optional of t, so is the answer
unfoldable pub Coalesced : Core → Ty → Core × Ty → Core × Ty → Type 0
Coalesced a t y r =
    ((y.1 ≡ ty.Optional t) × (r ≡ (core.Binary binary.CoalesceOptional a y.0, y.1)))
    ⊎ ((y.1 ≢ ty.Optional t) × ((c : Core) × Stands y t c × (r ≡ (core.Binary binary.Coalesce a c, t))))

abbrev pub is_coalesce : BinarySign → Bool
is_coalesce sign.Coalesce = true
is_coalesce _ = false

-- `??` groups from the right
unfoldable pub Coalesces : (Expr → Rule) → Expr → List Link → Rule
Coalesces k e [] cx want r = k e cx want r
Coalesces k e (l ∷ ls) cx want r =
    (is_coalesce (out-Link l).sign ≡ true) ×
    ((x : Core × Ty) × k e cx None x ×
    ((t : Ty) × (inside_at (out-Ty x.1) ≡ Some t) ×
    ((y : Core × Ty) × Coalesces k (out-Link l).right ls cx (Some t) y ×
    Coalesced x.0 t y r)))

-- whether the first operator of a chain is `??`
abbrev pub coalesces : List Link → Bool
coalesces [] = false
coalesces (l ∷ ls) = is_coalesce (out-Link l).sign

-- operands with operators of one rule between them; a range is no value
unfoldable pub Chained : (Expr → Rule) → Expr → List Link → Rule
Chained k e ls cx want r =
    ((coalesces ls ≡ true) × Coalesces k e ls cx None r)
    ⊎ (((coalesces ls ≡ true) → ⊥) × ((x : Core × Ty) × k e cx None x × Links k ls x cx r))

-- `c ? a : b`: an expected type is expected of both; else the first one decides
unfoldable pub Branches : Rule → Rule → Context → Option Ty → (Core × Core) × Ty → Type 0
Branches A B cx (Some t) r =
    (x : Core) × Wanted A cx t x ×
    ((y : Core) × Wanted B cx t y ×
    (r ≡ ((x, y), t)))
Branches A B cx None r =
    (x : Core × Ty) × A cx None x ×
    ((y : Core) × Wanted B cx x.1 y ×
    (r ≡ ((x.0, y), x.1)))

unfoldable pub Ternary : Rule → Rule → Rule → Rule
Ternary C A B cx want r =
    (c : Core) × Wanted C cx ty.Bool c ×
    ((x : (Core × Core) × Ty) × Branches A B cx want x ×
    (r ≡ (core.Choose c x.0.0 x.0.1, x.1)))
