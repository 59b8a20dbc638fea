-- Well typed core terms: one constructor for each form. The context is that of the code, the locals are those that stand
-- where the term is. Nothing is asked but what the meaning of the term needs.
use Rattle.std.specs.Prelude.{◌≡◌, ℕ, ◌<◌, ◌⊎◌, Bool, true, false, ◌&&◌, ◌||◌, not, List, [], ◌∷◌, ◌++◌, length, take, map, Option, Some, None, slice_get, nat_lt, if◌then◌else◌}
use Rattle.sv_value.specs.declared.value.Value.{Value, out-Value}
use Rattle.sv_value.specs.declared.value.Value.TheOpen.{Value-F}
use Rattle.value_calls.specs.declared.operators.Operator.{Operator}
use Rattle.value_calls.specs.declared.operators.Unary.{Unary as OneOperator}
use Rattle.value_calls.specs.declared.calls.Property.{Property}
use Rattle.align_guides.specs.Guides.{divides}
use Rattle.align_guides.specs.declared.Axis.{Axis}
use Rattle.align_guides.specs.declared.GuideKind.{GuideKind}
use Rattle.align_guides.specs.declared.GuideExpr.{GuideExpr}
use Rattle.swift_ast.specs.declared.tree.Binder.{Binder}
use Rattle.swift_core.specs.declared.ty.Ty.{Ty, out-Ty}
use Rattle.swift_core.specs.declared.ty.Ty.TheVariants as ty
use Rattle.swift_core.specs.declared.ids.CodeId.{CodeId}
use Rattle.swift_core.specs.declared.ids.BlockId.{BlockId}
use Rattle.swift_core.specs.declared.ids.PlaceRule.TheVariants as rule
use Rattle.swift_core.specs.declared.table.Argument.{Argument}
use Rattle.swift_core.specs.declared.table.Declaration.{Declaration}
use Rattle.swift_core.specs.declared.table.EnvironmentKey.{EnvironmentKey}
use Rattle.swift_core.specs.declared.table.Initial.TheVariants as initial
use Rattle.swift_core.specs.declared.table.Kind.{Kind}
use Rattle.swift_core.specs.declared.table.Kind.TheVariants as kind
use Rattle.swift_core.specs.declared.table.MemberPlace.{MemberPlace}
use Rattle.swift_core.specs.declared.table.ParamSignature.{ParamSignature}
use Rattle.swift_core.specs.declared.table.PreferenceKey.{PreferenceKey}
use Rattle.swift_core.specs.declared.table.Signature.{Signature}
use Rattle.swift_core.specs.declared.table.SignatureForm.{SignatureForm}
use Rattle.swift_core.specs.declared.table.SignatureForm.TheVariants as form
use Rattle.swift_core.specs.declared.table.Table.{Table}
use Rattle.swift_core.specs.declared.code.Code.{Code}
use Rattle.swift_core.specs.declared.code.CodeForm.{CodeForm}
use Rattle.swift_core.specs.declared.code.CoreMember.{CoreMember}
use Rattle.swift_core.specs.declared.code.CodeForm.TheVariants as code
use Rattle.swift_core.specs.declared.item.Alignment.{Alignment}
use Rattle.swift_core.specs.declared.item.CoreItem.{CoreItem, out-CoreItem}
use Rattle.swift_core.specs.declared.item.CoreItem.TheOpen.{CoreItem-F, Label-F, ViewCall-F}
use Rattle.swift_core.specs.declared.item.Edges.{Edges}
use Rattle.swift_core.specs.declared.item.ForEachOver.{ForEachOver}
use Rattle.swift_core.specs.declared.item.ForEachOver.TheVariants as over_items
use Rattle.swift_core.specs.declared.item.IdRule.{IdRule}
use Rattle.swift_core.specs.declared.item.IdRule.TheVariants as id
use Rattle.swift_core.specs.declared.item.ItemArm.{ItemArm}
use Rattle.swift_core.specs.declared.item.ItemCase.{ItemCase}
use Rattle.swift_core.specs.declared.item.Label.{Label, out-Label}
use Rattle.swift_core.specs.declared.item.ModifierCall.{ModifierCall}
use Rattle.swift_core.specs.declared.item.ModifierKind.{ModifierKind}
use Rattle.swift_core.specs.declared.item.ModifierKind.TheVariants as modifier
use Rattle.swift_core.specs.declared.item.ViewCall.{ViewCall, out-ViewCall}
use Rattle.swift_core.specs.declared.stmt.Condition.{Condition}
use Rattle.swift_core.specs.declared.stmt.Condition.TheVariants as condition
use Rattle.swift_core.specs.declared.stmt.CoreStmt.{CoreStmt, out-CoreStmt}
use Rattle.swift_core.specs.declared.stmt.CoreStmt.TheOpen.{CoreStmt-F}
use Rattle.swift_core.specs.declared.stmt.Over.{Over}
use Rattle.swift_core.specs.declared.stmt.Over.TheVariants as over
use Rattle.swift_core.specs.declared.stmt.StmtArm.{StmtArm}
use Rattle.swift_core.specs.declared.stmt.StmtCase.{StmtCase}
use Rattle.swift_core.specs.declared.term.Binary.TheVariants as two
use Rattle.swift_core.specs.declared.term.Change.{Change}
use Rattle.swift_core.specs.declared.term.ChangeCall.{ChangeCall, out-ChangeCall}
use Rattle.swift_core.specs.declared.term.ChangeCall.TheOpen.{Core-F, ChangeCall-F, CoreHop-F, Filling-F, Piece-F, Receiver-F}
use Rattle.swift_core.specs.declared.term.Core.{Core, out-Core}
use Rattle.swift_core.specs.declared.term.CoreHop.{CoreHop, out-CoreHop}
use Rattle.swift_core.specs.declared.term.Filling.{Filling, out-Filling}
use Rattle.swift_core.specs.declared.term.Invocation.{Invocation}
use Rattle.swift_core.specs.declared.term.Lookup.{Lookup}
use Rattle.swift_core.specs.declared.term.Lookup.TheVariants as look
use Rattle.swift_core.specs.declared.term.Piece.{Piece, out-Piece}
use Rattle.swift_core.specs.declared.term.Receiver.{Receiver, out-Receiver}
use Rattle.swift_core.specs.declared.term.Root.{Root}
use Rattle.swift_core.specs.declared.term.Root.TheVariants as root
use Rattle.swift_core.specs.declared.term.Target.{Target}
use Rattle.swift_core.specs.declared.term.Unary.TheVariants as one
use Rattle.swift_core.specs.Types.{inside_at, element_at, named_at}
use Rattle.swift_core.specs.Context.{Context, Local, Itself, HasMember, OwnMember, Part, local_of, with_local, parts_of, initial_of}
use Rattle.swift_core.specs.Mentions.{is_among_cells}
use Rattle.swift_core.specs.Readers.{reader_keeps}
use Rattle.swift_core.specs.Operators.{unary_type, binary_type, property_type, is_printed}
use Rattle.swift_core.specs.Uses.{locals_used}
use Rattle.swift_core.specs.Values.{HasValue}

-- ---- names and places

-- In a member of a data struct or an enum `self` is a value.
abbrev pub is_value : Itself → Bool
is_value Itself.a_value = true
is_value Itself.a_changed_value = true
is_value other = false

-- there is a `self`
abbrev pub is_there : Itself → Bool
is_there Itself.no_self = false
is_there other = true

-- what a name or `self` stands for has a type
pub data Looks (cx : Context) (locals : List Local) : Lookup → Ty → Type 0 where
  local : {i : ℕ} {t : Ty} → slice_get locals i ≡ Some (Local.valued t) → Looks cx locals (look.Local i) t
  bound_local : {i : ℕ} {t : Ty} → slice_get locals i ≡ Some (Local.placed t) → Looks cx locals (look.BoundLocal i) t
  input : {n : ℕ} {t : Ty} {b : Binder} {a : Argument} {s : Signature}
      → cx.itself ≡ Itself.a_view → OwnMember cx s → s.form ≡ form.Stored n b (Some t) a → Looks cx locals (look.Input n) t
  bound_input : {n : ℕ} {t : Ty} {s : Signature}
      → cx.itself ≡ Itself.a_view → OwnMember cx s → s.form ≡ form.Binding n (Some t) → Looks cx locals (look.BoundInput n) t
  slot : {n : ℕ} {t : Ty} {a : Argument} {s : Signature}
      → cx.itself ≡ Itself.a_view → OwnMember cx s → s.form ≡ form.State n (Some t) a → Looks cx locals (look.Slot (rule.Own n)) t
  environment : {k : ℕ} {t : Ty} {key : EnvironmentKey}
      → cx.itself ≡ Itself.a_view → slice_get cx.table.environment k ≡ Some key → key.ty ≡ Some t → Looks cx locals (look.Environment k) t
  itself : {d : ℕ} → is_value cx.itself ≡ true → cx.owner ≡ Some d → Looks cx locals look.Itself (ty.Named d)
  own_field : {n : ℕ} {t : Ty} {b : Binder} {a : Argument} {s : Signature}
      → is_value cx.itself ≡ true → OwnMember cx s → s.form ≡ form.Stored n b (Some t) a → Looks cx locals (look.OwnField n) t

-- what a place begins with has a type
pub data Begins (cx : Context) (locals : List Local) : Root → Ty → Type 0 where
  at_local : {i : ℕ} {t : Ty} → slice_get locals i ≡ Some (Local.valued t) → Begins cx locals (root.Local i) t
  at_bound_local : {i : ℕ} {t : Ty} → slice_get locals i ≡ Some (Local.placed t) → Begins cx locals (root.BoundLocal i) t
  at_bound_input : {n : ℕ} {t : Ty} {s : Signature}
      → cx.itself ≡ Itself.a_view → OwnMember cx s → s.form ≡ form.Binding n (Some t) → Begins cx locals (root.BoundInput n) t
  at_slot : {n : ℕ} {t : Ty} {a : Argument} {s : Signature}
      → cx.itself ≡ Itself.a_view → OwnMember cx s → s.form ≡ form.State n (Some t) a → Begins cx locals (root.Slot (rule.Own n)) t
  at_itself : {d : ℕ} → cx.itself ≡ Itself.a_changed_value → cx.owner ≡ Some d → Begins cx locals root.Itself (ty.Named d)

-- A member that is used: a computed property without arguments, or a function that is `mutating` or not; its parameters
-- and its result, if it has one.
pub data Uses : Signature → Bool → List ParamSignature → Option Ty → Type 0 where
  computed : {s : Signature} {t : Ty} → s.form ≡ form.Computed (Some t) → Uses s false [] (Some t)
  function : {s : Signature} {ps : List ParamSignature} {result : Option Ty} {mutating : Bool}
      → s.form ≡ form.Function ps result mutating → Uses s mutating ps result

-- ---- terms that give a value

abbrev pub CoreForm : Type 0
CoreForm = Core-F ChangeCall Core CoreHop Filling Piece Receiver Change Invocation Target

abbrev pub ReceiverForm : Type 0
ReceiverForm = Receiver-F ChangeCall Core CoreHop Filling Piece Receiver Change Invocation Target

abbrev pub HopForm : Type 0
HopForm = CoreHop-F ChangeCall Core CoreHop Filling Piece Receiver Change Invocation Target

abbrev pub FillingForm : Type 0
FillingForm = Filling-F ChangeCall Core CoreHop Filling Piece Receiver Change Invocation Target

abbrev pub PieceForm : Type 0
PieceForm = Piece-F ChangeCall Core CoreHop Filling Piece Receiver Change Invocation Target

abbrev pub ChangeForm : Type 0
ChangeForm = ChangeCall-F ChangeCall Core CoreHop Filling Piece Receiver Change Invocation Target

mutual
  -- a term has a type
  pub data Has (cx : Context) (locals : List Local) : CoreForm → Ty → Type 0 where
    literal : {v : Value} {t : Ty} → HasValue cx.table t v → Has cx locals (Core-F.Literal v) t
    name : {l : Lookup} {t : Ty} → Looks cx locals l t → Has cx locals (Core-F.Look l) t
    text : {ps : List Piece} → ArePieces cx locals ps → Has cx locals (Core-F.«Core::Text» ps) ty.Text
    list : {cs : List Core} {t : Ty} → AllHave cx locals cs t → Has cx locals (Core-F.List cs) (ty.List t)
    promote : {c : Core} {o t : Ty} → inside_at (out-Ty o) ≡ Some t → Has cx locals (out-Core c) t → Has cx locals (Core-F.Promote c) o
    -- one operand
    operate_one : {op : OneOperator} {c : Core} {t u : Ty}
        → Has cx locals (out-Core c) t → unary_type op (out-Ty t) ≡ Some u → Has cx locals (Core-F.Unary (one.Operate op) c) u
    force : {c : Core} {o t : Ty} → Has cx locals (out-Core c) o → inside_at (out-Ty o) ≡ Some t → Has cx locals (Core-F.Unary one.Force c) t
    field : {c : Core} {t u : Ty} {d n : ℕ} {b : Binder} {a : Argument} {s : Signature}
        → Has cx locals (out-Core c) t → named_at (out-Ty t) ≡ Some d → HasMember cx.table d s → s.form ≡ form.Stored n b (Some u) a
        → Has cx locals (Core-F.Unary (one.Field n) c) u
    property : {p : Property} {c : Core} {t u : Ty}
        → Has cx locals (out-Core c) t → property_type p (out-Ty t) ≡ Some u → Has cx locals (Core-F.Unary (one.Look p) c) u
    -- two operands
    operate : {op : Operator} {a b : Core} {t u : Ty}
        → Has cx locals (out-Core a) t → Has cx locals (out-Core b) t → binary_type op (out-Ty t) ≡ Some u
        → Has cx locals (Core-F.Binary (two.Operate op) a b) u
    both : {a b : Core} → Has cx locals (out-Core a) ty.Bool → Has cx locals (out-Core b) ty.Bool → Has cx locals (Core-F.Binary two.And a b) ty.Bool
    either : {a b : Core} → Has cx locals (out-Core a) ty.Bool → Has cx locals (out-Core b) ty.Bool → Has cx locals (Core-F.Binary two.Or a b) ty.Bool
    coalesce : {a b : Core} {o t : Ty}
        → Has cx locals (out-Core a) o → inside_at (out-Ty o) ≡ Some t → Has cx locals (out-Core b) t → Has cx locals (Core-F.Binary two.Coalesce a b) t
    coalesce_optional : {a b : Core} {o t : Ty}
        → Has cx locals (out-Core a) o → inside_at (out-Ty o) ≡ Some t → Has cx locals (out-Core b) o → Has cx locals (Core-F.Binary two.CoalesceOptional a b) o
    element : {a b : Core} {l t : Ty}
        → Has cx locals (out-Core a) l → element_at (out-Ty l) ≡ Some t → Has cx locals (out-Core b) ty.Int → Has cx locals (Core-F.Binary two.Element a b) t
    contains : {a b : Core} {l t : Ty}
        → Has cx locals (out-Core a) l → element_at (out-Ty l) ≡ Some t → Has cx locals (out-Core b) t → Has cx locals (Core-F.Binary two.Contains a b) ty.Bool
    first_index : {a b : Core} {l t : Ty}
        → Has cx locals (out-Core a) l → element_at (out-Ty l) ≡ Some t → Has cx locals (out-Core b) t
        → Has cx locals (Core-F.Binary two.FirstIndex a b) (ty.Optional ty.Int)
    repeated : {a b : Core} → Has cx locals (out-Core a) ty.Text → Has cx locals (out-Core b) ty.Int → Has cx locals (Core-F.Binary two.Repeat a b) ty.Text
    choose : {c a b : Core} {t : Ty}
        → Has cx locals (out-Core c) ty.Bool → Has cx locals (out-Core a) t → Has cx locals (out-Core b) t → Has cx locals (Core-F.Choose c a b) t
    make : {d : ℕ} {fs : List Filling} {names_identifiable : Bool} {declaration : Declaration}
        → slice_get cx.table.declarations d ≡ Some declaration → declaration.kind ≡ kind.Data names_identifiable
        → Fillings cx locals fs (parts_of declaration.members) → Has cx locals (Core-F.Make d fs) (ty.Named d)
    static : {id : CodeId} {d : ℕ} {s : Signature} {t : Ty}
        → HasMember cx.table d s → s.code ≡ id → s.form ≡ form.Static (Some t) → Has cx locals (Core-F.Static id) t
    invoke : {i : Invocation} {t : Ty} → Invokes cx locals i (Some t) → Has cx locals (Core-F.Invoke i) t
    change : {c : Change} {t : Ty} → Changes cx locals c (Some t) → Has cx locals (Core-F.Change c) t

  -- each term has the type
  pub data AllHave (cx : Context) (locals : List Local) : List Core → Ty → Type 0 where
    no_terms : (t : Ty) → AllHave cx locals [] t
    more_terms : {c : Core} {cs : List Core} {t : Ty} → Has cx locals (out-Core c) t → AllHave cx locals cs t → AllHave cx locals (c ∷ cs) t

  -- each piece is a text, or a hole for a number, a truth value or a string
  pub data ArePieces (cx : Context) (locals : List Local) : List Piece → Type 0 where
    no_pieces : ArePieces cx locals []
    more_pieces : {p : Piece} {ps : List Piece} → IsPiece cx locals (out-Piece p) → ArePieces cx locals ps → ArePieces cx locals (p ∷ ps)

  pub data IsPiece (cx : Context) (locals : List Local) : PieceForm → Type 0 where
    plain : {w : List ℕ} → IsPiece cx locals (Piece-F.«Piece::Text» w)
    hole : {c : Core} {t : Ty} → Has cx locals (out-Core c) t → is_printed (out-Ty t) ≡ true → IsPiece cx locals (Piece-F.Hole c)

  -- each argument has the type of its parameter
  pub data Arguments (cx : Context) (locals : List Local) : List Core → List ParamSignature → Type 0 where
    no_arguments : Arguments cx locals [] []
    more_arguments : {c : Core} {cs : List Core} {p : ParamSignature} {ps : List ParamSignature} {t : Ty}
        → p.ty ≡ Some t → Has cx locals (out-Core c) t → Arguments cx locals cs ps → Arguments cx locals (c ∷ cs) (p ∷ ps)

  -- each filling fits what it fills
  pub data Fillings (cx : Context) (locals : List Local) : List Filling → List Part → Type 0 where
    no_fillings : Fillings cx locals [] []
    more_fillings : {f : Filling} {fs : List Filling} {p : Part} {ps : List Part}
        → Fills cx locals (out-Filling f) p → Fillings cx locals fs ps → Fillings cx locals (f ∷ fs) (p ∷ ps)

  pub data Fills (cx : Context) (locals : List Local) : FillingForm → Part → Type 0 where
    given : {c : Core} {p : Part} {t : Ty} → p.is_binding ≡ false → p.ty ≡ Some t → Has cx locals (out-Core c) t → Fills cx locals (Filling-F.Given c) p
    place : {target : Target} {p : Part} {t : Ty} → p.is_binding ≡ true → p.ty ≡ Some t → Binds cx locals target t → Fills cx locals (Filling-F.Place target) p
    written : {id : CodeId} {p : Part} → initial_of p.argument ≡ Some initial.Written → p.code ≡ id → Fills cx locals (Filling-F.Initial id) p
    without : {p : Part} {o t : Ty} → initial_of p.argument ≡ Some initial.Nil → p.ty ≡ Some o → inside_at (out-Ty o) ≡ Some t → Fills cx locals Filling-F.Nil p

  -- the use of a computed property or of a function that is not `mutating`, and its result, if it has one
  pub data Invokes (cx : Context) (locals : List Local) : Invocation → Option Ty → Type 0 where
    uses : {i : Invocation} {d : ℕ} {s : Signature} {ps : List ParamSignature} {result : Option Ty}
        → HasMember cx.table d s → s.code ≡ i.code → Uses s false ps result
        → Receives cx locals (out-Receiver i.receiver) d → Arguments cx locals i.arguments ps → Invokes cx locals i result

  -- what `self` is in the member, for a member of this declaration
  pub data Receives (cx : Context) (locals : List Local) : ReceiverForm → ℕ → Type 0 where
    same : {d : ℕ} → is_there cx.itself ≡ true → cx.owner ≡ Some d → Receives cx locals Receiver-F.Same d
    value : {c : Core} {d : ℕ} {t : Ty} → Has cx locals (out-Core c) t → named_at (out-Ty t) ≡ Some d → Receives cx locals (Receiver-F.Value c) d

  -- the value at a place has a type
  pub data Places (cx : Context) (locals : List Local) : Target → Ty → Type 0 where
    reached : {target : Target} {t u : Ty} → Begins cx locals target.root t → Leads cx locals t target.hops u → Places cx locals target u

  -- a place that can be bound
  pub data Binds (cx : Context) (locals : List Local) : Target → Ty → Type 0 where
    bound : {target : Target} {t : Ty} → is_among_cells target.root ≡ true → Places cx locals target t → Binds cx locals target t

  -- from a value of the first type the steps lead to one of the second
  pub data Leads (cx : Context) (locals : List Local) : Ty → List CoreHop → Ty → Type 0 where
    there : {t : Ty} → Leads cx locals t [] t
    step : {t u v : Ty} {h : CoreHop} {hs : List CoreHop} → Steps cx locals t (out-CoreHop h) u → Leads cx locals u hs v → Leads cx locals t (h ∷ hs) v

  pub data Steps (cx : Context) (locals : List Local) : Ty → HopForm → Ty → Type 0 where
    to_field : {t u : Ty} {d n : ℕ} {b : Binder} {a : Argument} {s : Signature}
        → named_at (out-Ty t) ≡ Some d → HasMember cx.table d s → s.form ≡ form.Stored n b (Some u) a → Steps cx locals t (CoreHop-F.Field n) u
    to_element : {t u : Ty} {c : Core} → element_at (out-Ty t) ≡ Some u → Has cx locals (out-Core c) ty.Int → Steps cx locals t (CoreHop-F.Index c) u

  -- a call that changes the value at a place, and the type of its own value, if it has one
  pub data Changes (cx : Context) (locals : List Local) : Change → Option Ty → Type 0 where
    changes : {c : Change} {t : Ty} {result : Option Ty}
        → Places cx locals c.target t → Calls cx locals t (out-ChangeCall c.call) result → Changes cx locals c result

  -- the call on a value of the type
  pub data Calls (cx : Context) (locals : List Local) : Ty → ChangeForm → Option Ty → Type 0 where
    toggle : Calls cx locals ty.Bool ChangeCall-F.Toggle None
    append : {l t : Ty} {c : Core} → element_at (out-Ty l) ≡ Some t → Has cx locals (out-Core c) t → Calls cx locals l (ChangeCall-F.Append c) None
    append_all : {l t : Ty} {c : Core} → element_at (out-Ty l) ≡ Some t → Has cx locals (out-Core c) l → Calls cx locals l (ChangeCall-F.AppendAll c) None
    insert : {l t : Ty} {c i : Core}
        → element_at (out-Ty l) ≡ Some t → Has cx locals (out-Core c) t → Has cx locals (out-Core i) ty.Int → Calls cx locals l (ChangeCall-F.Insert c i) None
    remove : {l t : Ty} {i : Core} → element_at (out-Ty l) ≡ Some t → Has cx locals (out-Core i) ty.Int → Calls cx locals l (ChangeCall-F.Remove i) (Some t)
    remove_first : {l t : Ty} → element_at (out-Ty l) ≡ Some t → Calls cx locals l ChangeCall-F.RemoveFirst (Some t)
    remove_last : {l t : Ty} → element_at (out-Ty l) ≡ Some t → Calls cx locals l ChangeCall-F.RemoveLast (Some t)
    remove_all : {l t : Ty} → element_at (out-Ty l) ≡ Some t → Calls cx locals l ChangeCall-F.RemoveAll None
    swap_at : {l t : Ty} {i j : Core}
        → element_at (out-Ty l) ≡ Some t → Has cx locals (out-Core i) ty.Int → Has cx locals (out-Core j) ty.Int → Calls cx locals l (ChangeCall-F.SwapAt i j) None
    mutate : {t : Ty} {id : CodeId} {cs : List Core} {d : ℕ} {s : Signature} {ps : List ParamSignature} {result : Option Ty}
        → named_at (out-Ty t) ≡ Some d → HasMember cx.table d s → s.code ≡ id → Uses s true ps result → Arguments cx locals cs ps
        → Calls cx locals t (ChangeCall-F.Mutate id cs) result

-- ---- statements

-- where a statement stands: within what a `break` leaves, and within a loop
pub record Within : Type 0 where
  pub breaks : Bool
  pub continues : Bool

abbrev pub in_body : Within
in_body = record { breaks = false; continues = false }

abbrev pub in_loop : Within
in_loop = record { breaks = true; continues = true }

abbrev pub in_switch : Within → Within
in_switch w = record { breaks = true; continues = w.continues }

-- How statements end: by their form each path ends with a `return`, or they hold a `break` of the loop or `switch`.
pub record Flow : Type 0 where
  pub ends : Bool
  pub breaks : Bool

abbrev pub goes_on : Flow
goes_on = record { ends = false; breaks = false }

abbrev pub returns : Flow
returns = record { ends = true; breaks = false }

-- the one, and then the other
abbrev pub then_flow : Flow → Flow → Flow
then_flow f g = record { ends = f.ends || g.ends; breaks = f.breaks || g.breaks }

-- the one or the other
abbrev pub either_flow : Flow → Flow → Flow
either_flow f g = record { ends = f.ends && g.ends; breaks = f.breaks || g.breaks }

-- A `break` within leaves the `switch`.
abbrev pub switch_flow : Flow → Flow
switch_flow f = record { ends = f.ends && not f.breaks; breaks = false }

-- A loop ends the path where its condition is the word `true` and no `break` leaves it.
abbrev pub loop_flow : Bool → Flow → Flow
loop_flow is_forever f = record { ends = is_forever && not f.breaks; breaks = false }

abbrev pub is_true : Value-F Value → Bool
is_true (Value-F.Bool b) = b
is_true other = false

abbrev pub is_true_literal : CoreForm → Bool
is_true_literal (Core-F.Literal v) = is_true (out-Value v)
is_true_literal other = false

-- the condition is the word `true` alone
abbrev pub is_forever : List Condition → Bool
is_forever (condition.Test c ∷ []) = is_true_literal (out-Core c)
is_forever other = false

-- Conditions, and the locals within what they guard.
pub data Conditions (cx : Context) : List Local → List Condition → List Local → Type 0 where
  no_conditions : {locals : List Local} → Conditions cx locals [] locals
  test : {locals after : List Local} {c : Core} {cs : List Condition}
      → Has cx locals (out-Core c) ty.Bool → Conditions cx locals cs after → Conditions cx locals (condition.Test c ∷ cs) after
  bind : {locals after : List Local} {c : Core} {cs : List Condition} {o t : Ty}
      → Has cx locals (out-Core c) o → inside_at (out-Ty o) ≡ Some t → Conditions cx (locals ++ Local.valued t ∷ []) cs after
      → Conditions cx locals (condition.Bind c ∷ cs) after

-- a range, or the indices of a list
pub data IsRange (cx : Context) (locals : List Local) : Over → Type 0 where
  up_to : {a b : Core} → Has cx locals (out-Core a) ty.Int → Has cx locals (out-Core b) ty.Int → IsRange cx locals (over.UpTo a b)
  through : {a b : Core} → Has cx locals (out-Core a) ty.Int → Has cx locals (out-Core b) ty.Int → IsRange cx locals (over.Through a b)
  indices : {c : Core} {l t : Ty} → Has cx locals (out-Core c) l → element_at (out-Ty l) ≡ Some t → IsRange cx locals (over.Indices c)

-- what a loop goes over has elements of the type
pub data IsOver (cx : Context) (locals : List Local) : Over → Ty → Type 0 where
  range : {o : Over} → IsRange cx locals o → IsOver cx locals o ty.Int
  elements : {c : Core} {l t : Ty} → Has cx locals (out-Core c) l → element_at (out-Ty l) ≡ Some t → IsOver cx locals (over.List c) t

-- Each value of the type is matched: there is a `default`, or some case has the value as a pattern. `ps` holds for each case
-- its patterns, or None.
abbrev pub Covers : Table → Ty → List (Option (List Value)) → Type 0
Covers table t ps = ((i : ℕ) × (slice_get ps i ≡ Some None))
    ⊎ ((v : Value) → HasValue table t v → (i : ℕ) × ((vs : List Value) × (slice_get ps i ≡ Some (Some vs)) × ((j : ℕ) × (slice_get vs j ≡ Some v))))

abbrev pub StmtForm : Type 0
StmtForm = CoreStmt-F CoreStmt StmtArm StmtCase

mutual
  -- A list of statements, where `result` is the type of what the function gives, if it gives a value.
  pub data Statements (cx : Context) (result : Option Ty) : Within → List Local → List CoreStmt → Flow → Type 0 where
    no_statements : {w : Within} {locals : List Local} → Statements cx result w locals [] goes_on
    more_statements : {w : Within} {locals : List Local} {s : CoreStmt} {ss : List CoreStmt} {l : Option Local} {f g : Flow}
        → Statement cx result w locals (out-CoreStmt s) l f → Statements cx result w (with_local locals l) ss g
        → Statements cx result w locals (s ∷ ss) (then_flow f g)

  -- a statement, and the local that it adds
  pub data Statement (cx : Context) (result : Option Ty) : Within → List Local → StmtForm → Option Local → Flow → Type 0 where
    declare : {w : Within} {locals : List Local} {c : Core} {t : Ty}
        → Has cx locals (out-Core c) t → Statement cx result w locals (CoreStmt-F.Local c) (Some (Local.valued t)) goes_on
    assign : {w : Within} {locals : List Local} {target : Target} {c : Core} {t : Ty}
        → Places cx locals target t → Has cx locals (out-Core c) t → Statement cx result w locals (CoreStmt-F.Assign target c) None goes_on
    update : {w : Within} {locals : List Local} {op : Operator} {target : Target} {c : Core} {t : Ty}
        → Places cx locals target t → Has cx locals (out-Core c) t → binary_type op (out-Ty t) ≡ Some t
        → Statement cx result w locals (CoreStmt-F.Update op target c) None goes_on
    decide : {w : Within} {locals : List Local} {arms : List StmtArm} {f : Flow}
        → Arms cx result w locals arms f → Statement cx result w locals (CoreStmt-F.If arms None) None (either_flow f goes_on)
    decide_else : {w : Within} {locals : List Local} {arms : List StmtArm} {ss : List CoreStmt} {f g : Flow}
        → Arms cx result w locals arms f → Statements cx result w locals ss g
        → Statement cx result w locals (CoreStmt-F.If arms (Some ss)) None (either_flow f g)
    switch : {w : Within} {locals : List Local} {c : Core} {t : Ty} {cases : List StmtCase} {f : Flow}
        → Has cx locals (out-Core c) t → Covers cx.table t (map (λ (k : StmtCase). k.patterns) cases) → Cases cx result (in_switch w) locals cases f
        → Statement cx result w locals (CoreStmt-F.Switch c cases) None (switch_flow f)
    for_each : {w : Within} {locals : List Local} {o : Over} {t : Ty} {ss : List CoreStmt} {f : Flow}
        → IsOver cx locals o t → Statements cx result in_loop (locals ++ Local.valued t ∷ []) ss f
        → Statement cx result w locals (CoreStmt-F.For o ss) None goes_on
    while : {w : Within} {locals inner : List Local} {cs : List Condition} {ss : List CoreStmt} {f : Flow}
        → Conditions cx locals cs inner → Statements cx result in_loop inner ss f
        → Statement cx result w locals (CoreStmt-F.While cs ss) None (loop_flow (is_forever cs) f)
    leave : {w : Within} {locals : List Local} → result ≡ None → Statement cx result w locals (CoreStmt-F.Return None) None returns
    give : {w : Within} {locals : List Local} {c : Core} {t : Ty}
        → result ≡ Some t → Has cx locals (out-Core c) t → Statement cx result w locals (CoreStmt-F.Return (Some c)) None returns
    break : {w : Within} {locals : List Local} → w.breaks ≡ true → Statement cx result w locals CoreStmt-F.Break None (record { ends = false; breaks = true })
    continue : {w : Within} {locals : List Local} → w.continues ≡ true → Statement cx result w locals CoreStmt-F.Continue None goes_on
    call : {w : Within} {locals : List Local} {i : Invocation} → Invokes cx locals i None → Statement cx result w locals (CoreStmt-F.Invoke i) None goes_on
    alter : {w : Within} {locals : List Local} {c : Change} {value : Option Ty}
        → Changes cx locals c value → Statement cx result w locals (CoreStmt-F.Change c) None goes_on

  pub data Arms (cx : Context) (result : Option Ty) : Within → List Local → List StmtArm → Flow → Type 0 where
    no_arms : {w : Within} {locals : List Local} → Arms cx result w locals [] returns
    more_arms : {w : Within} {locals inner : List Local} {a : StmtArm} {as' : List StmtArm} {f g : Flow}
        → Conditions cx locals a.conditions inner → Statements cx result w inner a.body f → Arms cx result w locals as' g
        → Arms cx result w locals (a ∷ as') (either_flow f g)

  pub data Cases (cx : Context) (result : Option Ty) : Within → List Local → List StmtCase → Flow → Type 0 where
    no_cases : {w : Within} {locals : List Local} → Cases cx result w locals [] returns
    more_cases : {w : Within} {locals : List Local} {c : StmtCase} {cs : List StmtCase} {f g : Flow}
        → Statements cx result w locals c.body f → Cases cx result w locals cs g → Cases cx result w locals (c ∷ cs) (either_flow f g)

-- ---- blocks

-- These are the locals at these places, in order, and after them parameters of these types.
abbrev pub AreKept : List Local → List ℕ → List Ty → List Local → Type 0
AreKept locals [] parameters ls = ls ≡ map Local.valued parameters
AreKept locals (k ∷ ks) parameters [] = ⊥
AreKept locals (k ∷ ks) parameters (l ∷ ls) = (slice_get locals k ≡ Some l) × AreKept locals ks parameters ls

-- This code of the member is written where these locals stand, and has parameters of these types. What it keeps is judged by
-- the blocks before it: those within it stand there. Its types are those of what it keeps and of its parameters.
pub data IsBlock (cx : Context) (locals : List Local) : BlockId → List Ty → CodeForm → Type 0 where
  written_here : {b : BlockId} {c : Code} {parameters : List Ty}
      → slice_get cx.blocks b.number ≡ Some c → c.outer ≡ length locals → c.parameters ≡ length parameters
      → c.kept ≡ locals_used (take b.number cx.blocks) c.outer c.form → AreKept locals c.kept parameters (map local_of c.types)
      → IsBlock cx locals b parameters c.form

-- the locals, and then those of parameters of these types
abbrev pub with_parameters : List Local → List Ty → List Local
with_parameters locals ts = locals ++ map Local.valued ts

-- An action block: its statements have no value.
pub data IsAction (cx : Context) (locals : List Local) : BlockId → List Ty → Type 0 where
  action : {b : BlockId} {ts : List Ty} {form : CodeForm} {ss : List CoreStmt} {f : Flow}
      → IsBlock cx locals b ts form → form ≡ code.Statements ss → Statements cx None in_body (with_parameters locals ts) ss f → IsAction cx locals b ts

-- ---- views

-- what a modifier takes: the type of an argument, and whether it may be left out
pub record Wanted : Type 0 where
  pub ty : Ty
  pub may_be_left_out : Bool

abbrev pub needs : Ty → Wanted
needs t = record { ty = t; may_be_left_out = false }

abbrev pub takes : Ty → Wanted
takes t = record { ty = t; may_be_left_out = true }

-- each argument is given, with the type, or left out where it may be
pub data Given (cx : Context) (locals : List Local) : List (Option Core) → List Wanted → Type 0 where
  none_given : Given cx locals [] []
  left_out : {cs : List (Option Core)} {w : Wanted} {ws : List Wanted} → w.may_be_left_out ≡ true → Given cx locals cs ws → Given cx locals (None ∷ cs) (w ∷ ws)
  one_given : {c : Core} {cs : List (Option Core)} {w : Wanted} {ws : List Wanted}
      → Has cx locals (out-Core c) w.ty → Given cx locals cs ws → Given cx locals (Some c ∷ cs) (w ∷ ws)

-- The declaration is a data struct or an enum with this computed property, or the type has the built-in one: what the ids of
-- a `ForEach` are.
pub data IsId (cx : Context) : Ty → IdRule → Type 0 where
  by_itself : {t : Ty} → IsId cx t id.Itself
  by_field : {t u : Ty} {d n : ℕ} {b : Binder} {a : Argument} {s : Signature}
      → named_at (out-Ty t) ≡ Some d → HasMember cx.table d s → s.form ≡ form.Stored n b (Some u) a → IsId cx t (id.Field n)
  by_computed : {t u : Ty} {d : ℕ} {c : CodeId} {s : Signature}
      → named_at (out-Ty t) ≡ Some d → HasMember cx.table d s → s.code ≡ c → s.form ≡ form.Computed (Some u) → IsId cx t (id.Computed c)
  by_property : {t u : Ty} {p : Property} → property_type p (out-Ty t) ≡ Some u → IsId cx t (id.Look p)

-- what a `ForEach` goes over, and the local that an item is
pub data Repeats (cx : Context) (locals : List Local) : ForEachOver → Local → Type 0 where
  numbers : {o : Over} → IsRange cx locals o → Repeats cx locals (over_items.Numbers o) (Local.valued ty.Int)
  values : {c : Core} {l t : Ty} {i : IdRule}
      → Has cx locals (out-Core c) l → element_at (out-Ty l) ≡ Some t → IsId cx t i → Repeats cx locals (over_items.Values c i) (Local.valued t)
  places : {target : Target} {l t : Ty} {i : IdRule}
      → Binds cx locals target l → element_at (out-Ty l) ≡ Some t → IsId cx t i → Repeats cx locals (over_items.Places target i) (Local.placed t)

-- the key has values of this type
pub data HasPreference (table : Table) (k : ℕ) (t : Ty) : Type 0 where
  key : {p : PreferenceKey} → slice_get table.preferences k ≡ Some p → p.ty ≡ Some t → HasPreference table k t

-- a property or a function of the program that gives views
pub data GivesViews : Signature → List ParamSignature → Type 0 where
  by_builder_property : {s : Signature} → s.form ≡ form.BuilderProperty → GivesViews s []
  by_builder_function : {s : Signature} {ps : List ParamSignature} → s.form ≡ form.BuilderFunction ps → GivesViews s ps

abbrev pub ItemForm : Type 0
ItemForm = CoreItem-F CoreItem Label ViewCall ItemArm ItemCase ModifierCall

abbrev pub LabelForm : Type 0
LabelForm = Label-F CoreItem Label ViewCall ItemArm ItemCase ModifierCall

abbrev pub ViewForm : Type 0
ViewForm = ViewCall-F CoreItem Label ViewCall ItemArm ItemCase ModifierCall

-- one argument, of this type where it is given
abbrev pub Takes : Context → List Local → Option Core → Ty → Type 0
Takes cx locals c t = Given cx locals (c ∷ []) (takes t ∷ [])

mutual
  -- the items of a builder
  pub data Items (cx : Context) : List Local → List CoreItem → Type 0 where
    no_items : {locals : List Local} → Items cx locals []
    more_items : {locals : List Local} {i : CoreItem} {is : List CoreItem} {l : Option Local}
        → Item cx locals (out-CoreItem i) l → Items cx (with_local locals l) is → Items cx locals (i ∷ is)

  -- an item, and the local that it adds
  pub data Item (cx : Context) : List Local → ItemForm → Option Local → Type 0 where
    declare_item : {locals : List Local} {c : Core} {t : Ty} → Has cx locals (out-Core c) t → Item cx locals (CoreItem-F.Local c) (Some (Local.valued t))
    decide_item : {locals : List Local} {arms : List ItemArm} → ItemArms cx locals arms → Item cx locals (CoreItem-F.If arms None) None
    decide_else_item : {locals : List Local} {arms : List ItemArm} {is : List CoreItem}
        → ItemArms cx locals arms → Items cx locals is → Item cx locals (CoreItem-F.If arms (Some is)) None
    switch_item : {locals : List Local} {c : Core} {t : Ty} {cases : List ItemCase}
        → Has cx locals (out-Core c) t → Covers cx.table t (map (λ (k : ItemCase). k.patterns) cases) → ItemCases cx locals cases
        → Item cx locals (CoreItem-F.Switch c cases) None
    view : {locals : List Local} {v : ViewCall} {ms : List ModifierCall}
        → View cx locals (out-ViewCall v) → Modifiers cx locals ms → Item cx locals (CoreItem-F.View v ms) None

  pub data ItemArms (cx : Context) : List Local → List ItemArm → Type 0 where
    no_item_arms : {locals : List Local} → ItemArms cx locals []
    more_item_arms : {locals inner : List Local} {a : ItemArm} {as' : List ItemArm}
        → Conditions cx locals a.conditions inner → Items cx inner a.body → ItemArms cx locals as' → ItemArms cx locals (a ∷ as')

  pub data ItemCases (cx : Context) : List Local → List ItemCase → Type 0 where
    no_item_cases : {locals : List Local} → ItemCases cx locals []
    more_item_cases : {locals : List Local} {c : ItemCase} {cs : List ItemCase} → Items cx locals c.body → ItemCases cx locals cs → ItemCases cx locals (c ∷ cs)

  -- a view without its modifiers
  pub data View (cx : Context) : List Local → ViewForm → Type 0 where
    text_view : {locals : List Local} {c : Core} → Has cx locals (out-Core c) ty.Text → View cx locals (ViewCall-F.«ViewCall::Text» c)
    image : {locals : List Local} {c : Core} → Has cx locals (out-Core c) ty.Text → View cx locals (ViewCall-F.Image c)
    button : {locals : List Local} {b : BlockId} {l : Label} → IsAction cx locals b [] → IsLabel cx locals (out-Label l) → View cx locals (ViewCall-F.Button b l)
    toggle_view : {locals : List Local} {target : Target} {l : Label}
        → Binds cx locals target ty.Bool → IsLabel cx locals (out-Label l) → View cx locals (ViewCall-F.Toggle target l)
    spacer : {locals : List Local} {c : Option Core} → Takes cx locals c ty.Int → View cx locals (ViewCall-F.Spacer c)
    rectangle : {locals : List Local} → View cx locals ViewCall-F.Rectangle
    empty : {locals : List Local} → View cx locals ViewCall-F.Empty
    stack : {locals : List Local} {axis : Axis} {alignment : Alignment} {c : Option Core} {is : List CoreItem}
        → Takes cx locals c ty.Int → Items cx locals is → View cx locals (ViewCall-F.Stack axis alignment c is)
    group : {locals : List Local} {is : List CoreItem} → Items cx locals is → View cx locals (ViewCall-F.Group is)
    for_each_view : {locals : List Local} {o : ForEachOver} {l : Local} {is : List CoreItem}
        → Repeats cx locals o l → Items cx (locals ++ l ∷ []) is → View cx locals (ViewCall-F.ForEach o is)
    custom : {locals : List Local} {d : ℕ} {fs : List Filling} {declaration : Declaration}
        → slice_get cx.table.declarations d ≡ Some declaration → declaration.kind ≡ kind.View → Fillings cx locals fs (parts_of declaration.members)
        → View cx locals (ViewCall-F.Custom d fs)
    builder : {locals : List Local} {c : CodeId} {cs : List Core} {s : Signature} {ps : List ParamSignature}
        → cx.itself ≡ Itself.a_view → OwnMember cx s → s.code ≡ c → GivesViews s ps → Arguments cx locals cs ps → View cx locals (ViewCall-F.Builder c cs)

  pub data IsLabel (cx : Context) : List Local → LabelForm → Type 0 where
    text_label : {locals : List Local} {c : Core} → Has cx locals (out-Core c) ty.Text → IsLabel cx locals (Label-F.«Label::Text» c)
    content_label : {locals : List Local} {is : List CoreItem} → Items cx locals is → IsLabel cx locals (Label-F.Content is)

  pub data Modifiers (cx : Context) : List Local → List ModifierCall → Type 0 where
    no_modifiers : {locals : List Local} → Modifiers cx locals []
    more_modifiers : {locals : List Local} {m : ModifierCall} {ms : List ModifierCall} {ws : List Wanted} {has_content : Bool}
        → IsModifier cx locals m.kind ws has_content → Given cx locals m.arguments ws → Content cx locals has_content m.content
        → Modifiers cx locals ms → Modifiers cx locals (m ∷ ms)

  -- Views where the modifier has some, and none elsewhere.
  pub data Content (cx : Context) : List Local → Bool → List CoreItem → Type 0 where
    no_content : {locals : List Local} → Content cx locals false []
    content : {locals : List Local} {is : List CoreItem} → Items cx locals is → Content cx locals true is

  -- a kind of modifier, what it takes, and whether it has views of its own
  pub data IsModifier (cx : Context) : List Local → ModifierKind → List Wanted → Bool → Type 0 where
    fixed_frame : {locals : List Local} {a : Alignment} → IsModifier cx locals (modifier.FixedFrame a) (takes ty.Int ∷ takes ty.Int ∷ []) false
    flexible_frame : {locals : List Local} {a : Alignment}
        → IsModifier cx locals (modifier.FlexibleFrame a) (takes ty.Int ∷ takes ty.Int ∷ takes ty.Int ∷ takes ty.Int ∷ takes ty.Int ∷ takes ty.Int ∷ []) false
    padding : {locals : List Local} {e : Edges} → IsModifier cx locals (modifier.Padding e) (takes ty.Int ∷ []) false
    fixed_size : {locals : List Local} → IsModifier cx locals modifier.FixedSize (takes ty.Bool ∷ takes ty.Bool ∷ []) false
    offset : {locals : List Local} → IsModifier cx locals modifier.Offset (takes ty.Int ∷ takes ty.Int ∷ []) false
    layout_priority : {locals : List Local} → IsModifier cx locals modifier.LayoutPriority (needs ty.Int ∷ []) false
    line_limit : {locals : List Local} → IsModifier cx locals modifier.LineLimit (needs ty.Int ∷ []) false
    alignment_guide : {locals : List Local} {g : GuideKind} {e : GuideExpr} → divides e ≡ true → IsModifier cx locals (modifier.AlignmentGuide g e) [] false
    overlay : {locals : List Local} {a : Alignment} → IsModifier cx locals (modifier.Overlay a) [] true
    background : {locals : List Local} {a : Alignment} → IsModifier cx locals (modifier.Background a) [] true
    identity : {locals : List Local} (t : Ty) → IsModifier cx locals modifier.Id (needs t ∷ []) false
    set_environment : {locals : List Local} {k : ℕ} {key : EnvironmentKey} {t : Ty}
        → slice_get cx.table.environment k ≡ Some key → key.ty ≡ Some t → IsModifier cx locals (modifier.Environment k) (needs t ∷ []) false
    disabled : {locals : List Local} → IsModifier cx locals modifier.Disabled (needs ty.Bool ∷ []) false
    allows_hit_testing : {locals : List Local} → IsModifier cx locals modifier.AllowsHitTesting (needs ty.Bool ∷ []) false
    preference : {locals : List Local} {k : ℕ} {t : Ty} → HasPreference cx.table k t → IsModifier cx locals (modifier.Preference k) (needs t ∷ []) false
    overlay_reader : {locals : List Local} {k : ℕ} {b : BlockId} {t : Ty}
        → HasPreference cx.table k t → IsReader cx locals b t → IsModifier cx locals (modifier.OverlayReader k b) [] false
    background_reader : {locals : List Local} {k : ℕ} {b : BlockId} {t : Ty}
        → HasPreference cx.table k t → IsReader cx locals b t → IsModifier cx locals (modifier.BackgroundReader k b) [] false
    on_appear : {locals : List Local} {b : BlockId} → IsAction cx locals b [] → IsModifier cx locals (modifier.OnAppear b) [] false
    on_disappear : {locals : List Local} {b : BlockId} → IsAction cx locals b [] → IsModifier cx locals (modifier.OnDisappear b) [] false
    on_change : {locals : List Local} {b : BlockId} (t : Ty) → IsAction cx locals b [] → IsModifier cx locals (modifier.OnChange b) (needs t ∷ []) false
    on_change_of : {locals : List Local} {b : BlockId} {t : Ty}
        → IsAction cx locals b (t ∷ t ∷ []) → IsModifier cx locals (modifier.OnChange b) (needs t ∷ []) false
    on_preference_change : {locals : List Local} {k : ℕ} {b : BlockId} {t : Ty}
        → HasPreference cx.table k t → IsAction cx locals b (t ∷ []) → IsModifier cx locals (modifier.OnPreferenceChange k b) [] false
    on_tap_gesture : {locals : List Local} {b : BlockId} → IsAction cx locals b [] → IsModifier cx locals (modifier.OnTapGesture b) [] false

  -- The builder of a preference reader: its one parameter is the value of the key. It alters nothing of what it sees.
  pub data IsReader (cx : Context) : List Local → BlockId → Ty → Type 0 where
    reader : {locals : List Local} {b : BlockId} {t : Ty} {form : CodeForm} {is : List CoreItem}
        → IsBlock cx locals b (t ∷ []) form → form ≡ code.Builder is → Items cx (with_parameters locals (t ∷ [])) is
        → reader_keeps (length locals) b.number (code.Builder is) ≡ true → IsReader cx locals b t

-- locals that hold places stand in a view
abbrev pub PlacesStand : Context → List Local → Type 0
PlacesStand cx locals = (i : ℕ) (t : Ty) → slice_get locals i ≡ Some (Local.placed t) → cx.itself ≡ Itself.a_view

-- A block of a member that gives views stands somewhere in it, where some locals are: it is an action, or the builder of a
-- preference reader.
pub data BlockStands (cx : Context) (b : BlockId) : Type 0 where
  an_action : {locals : List Local} {ts : List Ty} → IsAction cx locals b ts → BlockStands cx b
  a_reader : {locals : List Local} {t : Ty} → PlacesStand cx locals → IsReader cx locals b t → BlockStands cx b

-- each block of the member stands in it
abbrev pub BlocksStand : Context → Type 0
BlocksStand cx = (b : BlockId) (c : Code) → slice_get cx.blocks b.number ≡ Some c → BlockStands cx b

-- ---- members

-- The forms that a member of a declaration of the kind may have.
abbrev pub stands_in : Kind → SignatureForm → Bool
stands_in (kind.Data i) (form.Stored n b t a) = true
stands_in (kind.Data i) (form.Computed t) = true
stands_in (kind.Data i) (form.Function ps result mutating) = true
stands_in (kind.Enum i cases) (form.Case n) = nat_lt n cases
stands_in (kind.Enum i cases) (form.Computed t) = true
stands_in (kind.Enum i cases) (form.Function ps result mutating) = not mutating
stands_in kind.View (form.Stored n b t a) = true
stands_in kind.View (form.State n t a) = true
stands_in kind.View (form.Binding n t) = true
stands_in kind.View (form.Environment k) = true
stands_in kind.View (form.Static t) = true
stands_in kind.View (form.Computed t) = true
stands_in kind.View (form.Function ps result mutating) = not mutating
stands_in kind.View form.BuilderProperty = true
stands_in kind.View (form.BuilderFunction ps) = true
stands_in kind.App form.BuilderProperty = true
stands_in (kind.Key k) (form.Static t) = true
stands_in (kind.Key k) form.Reduce = true
stands_in k other = false

-- what `self` is in the computed properties, the functions and the builders of a declaration
abbrev pub itself_in : Kind → Itself
itself_in (kind.Data i) = Itself.a_value
itself_in (kind.Enum i cases) = Itself.a_value
itself_in kind.View = Itself.a_view
itself_in kind.App = Itself.no_self
itself_in (kind.Key k) = Itself.no_self

abbrev pub itself_in_function : Bool → Kind → Itself
itself_in_function mutating k = if mutating then Itself.a_changed_value else itself_in k

-- The code of a member stands on no locals, and has parameters of these types.
pub data IsMain (m : CoreMember) (parameters : List Ty) : CodeForm → Type 0 where
  main : {c : Code}
      → m.code ≡ Some c → c.outer ≡ 0 → c.kept ≡ [] → c.parameters ≡ length parameters → map local_of c.types ≡ map Local.valued parameters
      → IsMain m parameters c.form

-- the code gives a value of the type
pub data GivesValue (cx : Context) (locals : List Local) : CodeForm → Ty → Type 0 where
  by_term : {c : Core} {t : Ty} → Has cx locals (out-Core c) t → GivesValue cx locals (code.Value c) t
  by_statements : {ss : List CoreStmt} {t : Ty} {f : Flow}
      → Statements cx (Some t) in_body locals ss f → f.ends ≡ true → GivesValue cx locals (code.Statements ss) t

-- the code gives a value of the result's type, or no value where there is no result
pub data GivesResult (cx : Context) (locals : List Local) : CodeForm → Option Ty → Type 0 where
  with_value : {c : CodeForm} {t : Ty} → GivesValue cx locals c t → GivesResult cx locals c (Some t)
  without_value : {ss : List CoreStmt} {f : Flow} → Statements cx None in_body locals ss f → GivesResult cx locals (code.Statements ss) None

-- A property whose initial value is written has that value as its code, and any other has no code.
pub data HasInitial (cx : Context) (m : CoreMember) (t : Ty) : Argument → Type 0 where
  initial_written : {a : Argument} {c : Core}
      → initial_of a ≡ Some initial.Written → IsMain m [] (code.Value c) → Has cx [] (out-Core c) t → HasInitial cx m t a
  initial_nil : {a : Argument} {u : Ty} → initial_of a ≡ Some initial.Nil → inside_at (out-Ty t) ≡ Some u → m.code ≡ None → HasInitial cx m t a
  no_initial : {a : Argument} → initial_of a ≡ None → m.code ≡ None → HasInitial cx m t a

-- the code of a member of declaration d, of this kind, fits its signature
pub data FitsSignature (table : Table) (d : ℕ) (k : Kind) (m : CoreMember) : SignatureForm → Type 0 where
  stored : {n : ℕ} {b : Binder} {t : Ty} {a : Argument}
      → HasInitial (record { table = table; owner = Some d; itself = Itself.no_self; blocks = m.blocks }) m t a
      → FitsSignature table d k m (form.Stored n b (Some t) a)
  state : {n : ℕ} {t : Ty} {a : Argument}
      → HasInitial (record { table = table; owner = Some d; itself = Itself.no_self; blocks = m.blocks }) m t a
      → FitsSignature table d k m (form.State n (Some t) a)
  binding : {n : ℕ} {t : Ty} → m.code ≡ None → FitsSignature table d k m (form.Binding n (Some t))
  reads_environment : {n : ℕ} {key : EnvironmentKey} → slice_get table.environment n ≡ Some key → m.code ≡ None → FitsSignature table d k m (form.Environment n)
  static_value : {t : Ty} {c : CodeForm}
      → IsMain m [] c → GivesValue (record { table = table; owner = Some d; itself = Itself.no_self; blocks = m.blocks }) [] c t
      → FitsSignature table d k m (form.Static (Some t))
  enum_case : {n : ℕ} → m.code ≡ None → FitsSignature table d k m (form.Case n)
  computed_value : {t : Ty} {c : CodeForm}
      → IsMain m [] c → GivesValue (record { table = table; owner = Some d; itself = itself_in k; blocks = m.blocks }) [] c t
      → FitsSignature table d k m (form.Computed (Some t))
  function_body : {ps : List ParamSignature} {ts : List Ty} {result : Option Ty} {mutating : Bool} {c : CodeForm}
      → map (λ (p : ParamSignature). p.ty) ps ≡ map Some ts → IsMain m ts c
      → GivesResult (record { table = table; owner = Some d; itself = itself_in_function mutating k; blocks = m.blocks }) (map Local.valued ts) c result
      → FitsSignature table d k m (form.Function ps result mutating)
  builder_property : {is : List CoreItem}
      → IsMain m [] (code.Builder is) → Items (record { table = table; owner = Some d; itself = itself_in k; blocks = m.blocks }) [] is
      → BlocksStand (record { table = table; owner = Some d; itself = itself_in k; blocks = m.blocks })
      → FitsSignature table d k m form.BuilderProperty
  builder_function : {ps : List ParamSignature} {ts : List Ty} {is : List CoreItem}
      → map (λ (p : ParamSignature). p.ty) ps ≡ map Some ts → IsMain m ts (code.Builder is)
      → Items (record { table = table; owner = Some d; itself = itself_in k; blocks = m.blocks }) (map Local.valued ts) is
      → BlocksStand (record { table = table; owner = Some d; itself = itself_in k; blocks = m.blocks })
      → FitsSignature table d k m (form.BuilderFunction ps)
  -- The first local is the value so far, which is changed, and the second the next value.
  reduce : {n : ℕ} {t : Ty} {ss : List CoreStmt} {f : Flow}
      → k ≡ kind.Key n → HasPreference table n t → IsMain m (t ∷ t ∷ []) (code.Statements ss)
      → Statements (record { table = table; owner = Some d; itself = Itself.no_self; blocks = m.blocks }) None in_body (Local.valued t ∷ Local.valued t ∷ []) ss f
      → FitsSignature table d k m form.Reduce

-- the default of an environment key
pub data FitsKey (table : Table) (n : ℕ) (m : CoreMember) : Type 0 where
  default_value : {key : EnvironmentKey} {t : Ty} {c : Core}
      → slice_get table.environment n ≡ Some key → key.ty ≡ Some t → IsMain m [] (code.Value c)
      → Has (record { table = table; owner = None; itself = Itself.no_self; blocks = m.blocks }) [] (out-Core c) t → FitsKey table n m

-- what stands at a place of the table is well typed
pub data IsTypedAt (table : Table) (m : CoreMember) : MemberPlace → Type 0 where
  typed_key : {place : MemberPlace} → place.declaration ≡ None → FitsKey table place.at m → IsTypedAt table m place
  typed_member : {place : MemberPlace} {d : ℕ} {declaration : Declaration} {s : Signature}
      → place.declaration ≡ Some d → slice_get table.declarations d ≡ Some declaration → slice_get declaration.members place.at ≡ Some s
      → stands_in declaration.kind s.form ≡ true → FitsSignature table d declaration.kind m s.form → IsTypedAt table m place
