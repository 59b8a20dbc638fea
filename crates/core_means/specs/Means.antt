-- What expressions and statements mean.
--
-- One unit of fuel is spent for each form that is entered. Forms are: expressions, statements, ranges, and the calls that stand
-- as statements. Brackets, promotions to an optional, targets (but for their indexes), conditions as such and patterns are none.
-- A form is left when its value is there, and a call after its body.
use Rattle.std.specs.Prelude.{ℕ, zero, suc, ◌+◌, ℤ, pos, ◌+ℤ◌, ◌-ℤ◌, List, [], ◌∷◌, ◌++◌, length, take, Bool, true, false, Option, Some, None, Ok, Err, unsigned_abs}
use Rattle.std.specs.List.{list_any}
use Rattle.identity_path.specs.declared.input.Input.TheVariants as input
use Rattle.sv_value.specs.declared.hop.Hop.{Hop}
use Rattle.sv_value.specs.declared.hop.Hop.TheVariants as hop
use Rattle.sv_value.specs.declared.value.Value.{Value, out-Value}
use Rattle.sv_value.specs.declared.value.Value.TheOpen as one
use Rattle.sv_value.specs.declared.value.Value.TheOpen.{Value-F}
use Rattle.sv_value.specs.declared.value.Value.TheVariants as whole
use Rattle.swift_core.specs.declared.code.Code.{Code}
use Rattle.swift_core.specs.declared.code.CodeForm.{CodeForm}
use Rattle.swift_core.specs.declared.code.CodeForm.TheVariants as form
use Rattle.swift_core.specs.Codes.{Parts as Program}
use Rattle.swift_core.specs.declared.stmt.Condition.{Condition}
use Rattle.swift_core.specs.declared.stmt.Condition.TheVariants as condition
use Rattle.swift_core.specs.declared.stmt.CoreStmt.{CoreStmt, out-CoreStmt}
use Rattle.swift_core.specs.declared.stmt.CoreStmt.TheOpen.{CoreStmt-F}
use Rattle.swift_core.specs.declared.stmt.Over.{Over}
use Rattle.swift_core.specs.declared.stmt.Over.TheVariants as over
use Rattle.swift_core.specs.declared.stmt.StmtArm.{StmtArm}
use Rattle.swift_core.specs.declared.stmt.StmtCase.{StmtCase}
use Rattle.swift_core.specs.declared.term.Binary.{Binary}
use Rattle.swift_core.specs.declared.term.Binary.TheVariants as binary
use Rattle.swift_core.specs.declared.term.Change.{Change}
use Rattle.swift_core.specs.declared.term.ChangeCall.{ChangeCall, out-ChangeCall}
use Rattle.swift_core.specs.declared.term.ChangeCall.TheOpen.{ChangeCall-F, Core-F, CoreHop-F, Filling-F, Piece-F, Receiver-F}
use Rattle.swift_core.specs.declared.term.Core.{Core, out-Core, size-Core}
use Rattle.swift_core.specs.declared.term.CoreHop.{CoreHop, out-CoreHop}
use Rattle.swift_core.specs.declared.term.Filling.{Filling, out-Filling}
use Rattle.swift_core.specs.declared.term.Invocation.{Invocation}
use Rattle.swift_core.specs.declared.term.Piece.{Piece, out-Piece}
use Rattle.swift_core.specs.declared.term.Receiver.{Receiver, out-Receiver}
use Rattle.swift_core.specs.declared.term.Target.{Target}
use Rattle.swift_core.specs.declared.term.Unary.{Unary}
use Rattle.swift_core.specs.declared.term.Unary.TheVariants as unary
use Rattle.swift_core.specs.Codes.{code_at}
use Rattle.value_calls.specs.declared.calls.Bounds.{Bounds}
use Rattle.value_calls.specs.declared.changes.Removed.{Removed}
use Rattle.value_calls.specs.declared.operators.Operator.{Operator}
use Rattle.value_calls.specs.declared.operators.Operator.TheVariants.{JoinLists}
use Rattle.value_calls.specs.declared.traps.TrapKind.TheVariants.{Fuel, Calls}
use Rattle.value_calls.specs.Calls as call
use Rattle.value_calls.specs.Made.{made}
use Rattle.value_calls.specs.Operators as operator
use Rattle.value_calls.specs.Same.{same}
use Rattle.value_calls.specs.Traps.{Outcome}
use Rattle.core_means.specs.declared.parts.Changed.{Changed}
use Rattle.core_means.specs.declared.parts.Flow.{Flow}
use Rattle.core_means.specs.declared.parts.Flow.TheVariants.{Next, Returned, Broke, Continued}
use Rattle.core_means.specs.declared.parts.Local.{Local}
use Rattle.core_means.specs.declared.parts.Local.TheVariants as local
use Rattle.core_means.specs.declared.parts.Numbers.{Numbers}
use Rattle.core_means.specs.declared.parts.Spot.{Spot}
use Rattle.core_means.specs.Asks.{Done, Doing, and_then, ◌>>=◌, ◌>>◌, give, trap, wrong, spend, given, found, answered, choose}
use Rattle.core_means.specs.Places.{field, look_up, spot_of, read_spot, write_spot}

-- ---- values

abbrev pub truth_at : Value-F Value → Option Bool
truth_at (one.Bool b) = Some b
truth_at v = None

unfoldable pub truth : Value → Option Bool
truth v = truth_at (out-Value v)

abbrev pub inside_at : Value-F Value → Option (Option Value)
inside_at (one.Opt part) = Some part
inside_at v = None

-- what is inside an optional
unfoldable pub inside : Value → Option (Option Value)
inside v = inside_at (out-Value v)

abbrev pub parts_at : Value-F Value → Option (List Value)
parts_at (one.List parts) = Some parts
parts_at v = None

-- the elements of a list
unfoldable pub parts : Value → Option (List Value)
parts v = parts_at (out-Value v)

abbrev pub index_at : Value-F Value → Option Hop
index_at (one.Int i) = Some (hop.Index i)
index_at v = None

unfoldable pub index_of : Value → Option Hop
index_of v = index_at (out-Value v)

abbrev pub field_answer : Option Value → Outcome Value
field_answer None = None
field_answer (Some v) = Some (Ok v)

-- what is computed of one value
abbrev pub of_one : Unary → Value → Outcome Value
of_one (unary.Operate o) v = operator.unary o v
of_one unary.Force v = call.unwrapped v
of_one (unary.Field i) v = field_answer (field i v)
of_one (unary.Look property) v = call.property property v

-- what is computed of two values, where both run
abbrev pub of_two : Binary → Value → Value → Outcome Value
of_two (binary.Operate o) v u = operator.operation o v u
of_two binary.And v u = None
of_two binary.Or v u = None
of_two binary.Coalesce v u = None
of_two binary.CoalesceOptional v u = None
of_two binary.Element v u = call.element v u
of_two binary.Contains v u = call.contains v u
of_two binary.FirstIndex v u = call.first_index v u
of_two binary.Repeat v u = call.repeated v u

-- the numbers of a range whose bounds are in order
abbrev pub below : Bounds → Numbers
below b = record { first = b.lower; count = unsigned_abs (b.upper -ℤ b.lower) }

abbrev pub up_to : Bounds → Numbers
up_to b = record { first = b.lower; count = unsigned_abs (b.upper -ℤ b.lower) + 1 }

abbrev pub places : List Value → Numbers
places vs = record { first = pos 0; count = length vs }

-- ---- calls that change the value they stand on

abbrev pub value_alone : Outcome Value → Outcome Changed
value_alone None = None
value_alone (Some (Err k)) = Some (Err k)
value_alone (Some (Ok v)) = Some (Ok (record { value = v; answer = None }))

abbrev pub with_element : Outcome Removed → Outcome Changed
with_element None = None
with_element (Some (Err k)) = Some (Err k)
with_element (Some (Ok r)) = Some (Ok (record { value = r.rest; answer = Some r.element }))

abbrev pub Calling : Type 0
Calling = ChangeCall-F ChangeCall Core CoreHop Filling Piece Receiver Change Invocation Target

-- the arguments of the call
abbrev pub arguments_at : Calling → List Core
arguments_at ChangeCall-F.Toggle = []
arguments_at (ChangeCall-F.Append x) = x ∷ []
arguments_at (ChangeCall-F.AppendAll x) = x ∷ []
arguments_at (ChangeCall-F.Insert x i) = x ∷ i ∷ []
arguments_at (ChangeCall-F.Remove i) = i ∷ []
arguments_at ChangeCall-F.RemoveFirst = []
arguments_at ChangeCall-F.RemoveLast = []
arguments_at ChangeCall-F.RemoveAll = []
arguments_at (ChangeCall-F.SwapAt i j) = i ∷ j ∷ []
arguments_at (ChangeCall-F.Mutate id arguments) = arguments

-- what a built-in call makes of the old value, by its arguments
abbrev pub altered_at : Calling → List Value → Value → Outcome Changed
altered_at ChangeCall-F.Toggle [] v = value_alone (call.toggled v)
altered_at (ChangeCall-F.Append _) (x ∷ []) v = value_alone (call.appended v x)
altered_at (ChangeCall-F.AppendAll _) (x ∷ []) v = value_alone (operator.operation JoinLists v x)
altered_at (ChangeCall-F.Insert _ _) (x ∷ i ∷ []) v = value_alone (call.inserted v x i)
altered_at (ChangeCall-F.Remove _) (i ∷ []) v = with_element (call.removed v i)
altered_at ChangeCall-F.RemoveFirst [] v = with_element (call.removed_first v)
altered_at ChangeCall-F.RemoveLast [] v = with_element (call.removed_last v)
altered_at ChangeCall-F.RemoveAll [] v = value_alone (call.emptied v)
altered_at (ChangeCall-F.SwapAt _ _) (i ∷ j ∷ []) v = value_alone (call.swapped v i j)
altered_at c arguments v = None

-- ---- locals

abbrev pub held : List Value → List Local
held [] = []
held (v ∷ vs) = local.Holds (input.Value v) ∷ held vs

abbrev pub push : Value → Doing (Unit {0})
push v = λ w. Done tt (record w { locals = w.locals ++ local.Holds (input.Value v) ∷ [] })

-- what is done, and after it the locals that stood before
unfoldable pub framed : {A : Type 0} → Doing A → Doing A
framed m = λ w. and_then (m w) (λ x u. Done x (record u { locals = take (length w.locals) u.locals }))

-- what is done with locals and a `self` of its own, and after it those that stood before
unfoldable pub within : {A : Type 0} → List Local → Option Value → Doing A → Doing A
within locals itself m = λ w. and_then (m (record w { locals = locals; itself = itself })) (λ x u. Done x (record u { locals = w.locals; itself = w.itself }))

-- The same with a copy of a value as `self`, which is what the value is changed to at the end.
abbrev pub changed_to : Option Value → Option Value → Option Changed
changed_to None answer = None
changed_to (Some v) answer = Some (record { value = v; answer = answer })

unfoldable pub on_copy : List Local → Value → Doing (Option Value) → Doing Changed
on_copy locals v m = λ w. and_then (m (record w { locals = locals; itself = Some v })) (λ answer u. given (changed_to u.itself answer) (record u { locals = w.locals; itself = w.itself }))

-- ---- how statements end

-- the value of a function's body, if it has one; it ends with no loop around it
abbrev pub value_of_flow : Flow → Option (Option Value)
value_of_flow Next = Some None
value_of_flow (Returned o) = Some o
value_of_flow Broke = None
value_of_flow Continued = None

-- after a turn: nothing where there is another, else how the loop ends
abbrev pub ended_by : Flow → Option Flow
ended_by Next = None
ended_by Continued = None
ended_by (Returned o) = Some (Returned o)
ended_by Broke = Some Next

-- A `break` among the cases of a `switch` ends the `switch` alone.
abbrev pub after_switch : Flow → Flow
after_switch Next = Next
after_switch (Returned o) = Returned o
after_switch Broke = Next
after_switch Continued = Continued

abbrev pub unless_ended : Option Flow → Doing Flow → Doing Flow
unless_ended None rest = rest
unless_ended (Some flow) rest = give flow

-- the next statement, unless the one before ended the block
abbrev pub and_next : Flow → Doing Flow → Doing Flow
and_next Next rest = rest
and_next (Returned o) rest = give (Returned o)
and_next Broke rest = give Broke
and_next Continued rest = give Continued

abbrev pub matches : Value → Option (List Value) → Bool
matches v None = true
matches v (Some patterns) = list_any (same v) patterns

-- ---- forms

-- the piece of code with this number
unfoldable pub code_of : Program → ℕ → Option Code
code_of p id = code_at p id

-- what the forms inside a form mean
pub record Inside : Type 0 where
  pub program : Program
  pub eval : Core → Doing Value
  pub exec : CoreStmt → Doing Flow
  pub span : Over → Doing Numbers
  pub call : Invocation → Doing (Option Value)
  pub change : Change → Doing (Option Value)

module _ (i : Inside) where
  -- the values of expressions, from left to right, behind those that are done
  unfoldable pub values_from : List Value → List Core → Doing (List Value)
  values_from done [] = give done
  values_from done (e ∷ es) = i.eval e >>= λ v. values_from (done ++ v ∷ []) es

  unfoldable pub list_of : List Core → Doing Value
  list_of es = values_from [] es >>= λ vs. answered (made (whole.List vs))

  abbrev pub piece_at : Piece-F ChangeCall Core CoreHop Filling Piece Receiver Change Invocation Target → Doing Value
  piece_at (Piece-F.Piece::Text text) = give (whole.Str text)
  piece_at (Piece-F.Hole e) = i.eval e

  unfoldable pub piece_of : Piece → Doing Value
  piece_of piece = piece_at (out-Piece piece)

  unfoldable pub pieces_from : List Value → List Piece → Doing (List Value)
  pieces_from done [] = give done
  pieces_from done (piece ∷ pieces) = piece_of piece >>= λ v. pieces_from (done ++ v ∷ []) pieces

  unfoldable pub text_of : List Piece → Doing Value
  text_of pieces = pieces_from [] pieces >>= λ vs. answered (call.interpolated vs)

  unfoldable pub one_operand : Unary → Core → Doing Value
  one_operand o e = i.eval e >>= λ v. answered (of_one o v)

  unfoldable pub tested : Core → Doing Bool
  tested e = i.eval e >>= λ v. given (truth v)

  unfoldable pub both : Core → Core → Doing Value
  both a b = tested a >>= λ t. choose t (tested b >>= λ u. give (whole.Bool u)) (give (whole.Bool false))

  unfoldable pub either : Core → Core → Doing Value
  either a b = tested a >>= λ t. choose t (give (whole.Bool true)) (tested b >>= λ u. give (whole.Bool u))

  unfoldable pub opened : Core → Doing (Option Value)
  opened e = i.eval e >>= λ v. given (inside v)

  -- the value inside the first, or the second
  abbrev pub or_else : Option Value → Core → Doing Value
  or_else None b = i.eval b
  or_else (Some v) b = give v

  unfoldable pub coalesced : Core → Core → Doing Value
  coalesced a b = opened a >>= λ o. or_else o b

  -- the first, unless it is nil
  abbrev pub unless_nil : Option Value → Core → Doing Value
  unless_nil None b = i.eval b
  unless_nil (Some v) b = give (whole.Opt (Some v))

  unfoldable pub coalesced_optional : Core → Core → Doing Value
  coalesced_optional a b = opened a >>= λ o. unless_nil o b

  unfoldable pub operands : Binary → Core → Core → Doing Value
  operands o a b = do
    x ← i.eval a
    y ← i.eval b
    answered (of_two o x y)

  abbrev pub two_operands_at : Binary → Core → Core → Doing Value
  two_operands_at (binary.Operate o) a b = operands (binary.Operate o) a b
  two_operands_at binary.And a b = both a b
  two_operands_at binary.Or a b = either a b
  two_operands_at binary.Coalesce a b = coalesced a b
  two_operands_at binary.CoalesceOptional a b = coalesced_optional a b
  two_operands_at binary.Element a b = operands binary.Element a b
  two_operands_at binary.Contains a b = operands binary.Contains a b
  two_operands_at binary.FirstIndex a b = operands binary.FirstIndex a b
  two_operands_at binary.Repeat a b = operands binary.Repeat a b

  unfoldable pub two_operands : Binary → Core → Core → Doing Value
  two_operands o a b = two_operands_at o a b

  unfoldable pub choice : Core → Core → Core → Doing Value
  choice c a b = tested c >>= λ t. choose t (i.eval a) (i.eval b)

  -- ---- statements in a row, and bodies

  unfoldable pub block : List CoreStmt → Doing Flow
  block [] = give Next
  block (s ∷ ss) = i.exec s >>= λ flow. and_next flow (block ss)

  unfoldable pub body : List CoreStmt → Doing (Option Value)
  body ss = block ss >>= λ flow. given (value_of_flow flow)

  abbrev pub run_form : CodeForm → Doing (Option Value)
  run_form (form.Value e) = i.eval e >>= λ v. give (Some v)
  run_form (form.Statements ss) = body ss
  run_form (form.Builder items) = wrong

  -- what a piece of code gives, if it has a value
  unfoldable pub run_code : Code → Doing (Option Value)
  run_code code = run_form code.form

  -- A member that is used has locals of its own: its arguments.
  unfoldable pub entered : ℕ → List Local → Option Value → Doing (Option Value)
  entered id locals itself = found (code_of i.program id) (λ code. within locals itself (run_code code))

  -- An initial value and a static property have no `self`.
  unfoldable pub initial : ℕ → Doing Value
  initial id = entered id [] None >>= λ o. given o

  abbrev pub receiver_at : Receiver-F ChangeCall Core CoreHop Filling Piece Receiver Change Invocation Target → Doing (Option Value)
  receiver_at Receiver-F.Same = λ w. Done w.itself w
  receiver_at (Receiver-F.Value e) = i.eval e >>= λ v. give (Some v)

  unfoldable pub receiver_of : Receiver → Doing (Option Value)
  receiver_of r = receiver_at (out-Receiver r)

  unfoldable pub invoked : Invocation → Doing (Option Value)
  invoked invocation = do
    itself ← receiver_of invocation.receiver
    vs ← values_from [] invocation.arguments
    entered invocation.code.number (held vs) itself

  -- ---- initialisers: the arguments first, and then the initial values of the others

  abbrev pub argument_at : Filling-F ChangeCall Core CoreHop Filling Piece Receiver Change Invocation Target → Doing (Option Value)
  argument_at (Filling-F.Given e) = i.eval e >>= λ v. give (Some v)
  argument_at (Filling-F.Place t) = wrong
  argument_at (Filling-F.Initial id) = give None
  argument_at Filling-F.Nil = give None

  unfoldable pub argument : Filling → Doing (Option Value)
  argument f = argument_at (out-Filling f)

  unfoldable pub arguments_from : List (Option Value) → List Filling → Doing (List (Option Value))
  arguments_from done [] = give done
  arguments_from done (f ∷ fs) = argument f >>= λ o. arguments_from (done ++ o ∷ []) fs

  abbrev pub filled_at : Filling-F ChangeCall Core CoreHop Filling Piece Receiver Change Invocation Target → Option Value → Doing Value
  filled_at f (Some v) = give v
  filled_at (Filling-F.Initial id) None = initial id.number
  filled_at Filling-F.Nil None = give (whole.Opt None)
  filled_at (Filling-F.Given e) None = wrong
  filled_at (Filling-F.Place t) None = wrong

  unfoldable pub filled : Filling → Option Value → Doing Value
  filled f o = filled_at (out-Filling f) o

  unfoldable pub fields_from : List Value → List Filling → List (Option Value) → Doing (List Value)
  fields_from done [] [] = give done
  fields_from done (f ∷ fs) (o ∷ os) = filled f o >>= λ v. fields_from (done ++ v ∷ []) fs os
  fields_from done [] (o ∷ os) = wrong
  fields_from done (f ∷ fs) [] = wrong

  unfoldable pub construction : ℕ → List Filling → Doing Value
  construction kind fs = do
    os ← arguments_from [] fs
    vs ← fields_from [] fs os
    answered (made (whole.Struct kind vs))

  -- ---- targets and changes

  abbrev pub hop_at : CoreHop-F ChangeCall Core CoreHop Filling Piece Receiver Change Invocation Target → Doing Hop
  hop_at (CoreHop-F.Field k) = give (hop.Field k)
  hop_at (CoreHop-F.Index e) = i.eval e >>= λ v. given (index_of v)

  unfoldable pub hop_of : CoreHop → Doing Hop
  hop_of h = hop_at (out-CoreHop h)

  -- the index expressions of a target, from left to right
  unfoldable pub hops_from : List Hop → List CoreHop → Doing (List Hop)
  hops_from done [] = give done
  hops_from done (h ∷ hs) = hop_of h >>= λ x. hops_from (done ++ x ∷ []) hs

  unfoldable pub mutated : ℕ → List Value → Value → Doing Changed
  mutated id vs v = found (code_of i.program id) (λ code. on_copy (held vs) v (run_code code))

  abbrev pub altered_by : Calling → List Value → Value → Doing Changed
  altered_by (ChangeCall-F.Mutate id arguments) vs v = mutated id.number vs v
  altered_by c vs v = answered (altered_at c vs v)

  unfoldable pub altered : ChangeCall → List Value → Value → Doing Changed
  altered c vs v = altered_by (out-ChangeCall c) vs v

  -- the old value is read after the arguments, and the new one written at the end
  unfoldable pub change_spot : ChangeCall → List Value → Spot → Doing (Option Value)
  change_spot c vs s = do
    old ← read_spot s
    r ← altered c vs old
    _ ← write_spot s r.value
    give r.answer

  unfoldable pub change_arguments : ChangeCall → Doing (List Value)
  change_arguments c = values_from [] (arguments_at (out-ChangeCall c))

  unfoldable pub changed : Change → Doing (Option Value)
  changed c = do
    hops ← hops_from [] c.target.hops
    vs ← change_arguments c.call
    s ← spot_of c.target.root hops
    change_spot c.call vs s

  -- ---- expressions

  unfoldable pub invoked_value : Invocation → Doing Value
  invoked_value invocation = invoked invocation >>= λ o. given o

  unfoldable pub changed_value : Change → Doing Value
  changed_value c = changed c >>= λ o. given o

  abbrev pub eval_at : Core-F ChangeCall Core CoreHop Filling Piece Receiver Change Invocation Target → Doing Value
  eval_at (Core-F.Literal v) = answered (made v)
  eval_at (Core-F.Look l) = look_up l
  eval_at (Core-F.Core::Text pieces) = text_of pieces
  eval_at (Core-F.List es) = list_of es
  eval_at (Core-F.Promote e) = wrong
  eval_at (Core-F.Unary o e) = one_operand o e
  eval_at (Core-F.Binary o a b) = two_operands o a b
  eval_at (Core-F.Choose c a b) = choice c a b
  eval_at (Core-F.Make kind fs) = construction kind fs
  eval_at (Core-F.Static id) = initial id.number
  eval_at (Core-F.Invoke invocation) = invoked_value invocation
  eval_at (Core-F.Change c) = changed_value c

  unfoldable pub eval_form : Core → Doing Value
  eval_form e = eval_at (out-Core e)

  -- Promotions stand around a form and are none. There are no more of them than the term is deep.
  abbrev pub promoting : (Core → Doing Value) → Core → Core-F ChangeCall Core CoreHop Filling Piece Receiver Change Invocation Target → Doing Value
  promoting inside e (Core-F.Promote x) = inside x >>= λ v. answered (call.promoted v)
  promoting inside e layer = eval_form e

  unfoldable pub promoted_to : ℕ → Core → Doing Value
  promoted_to zero e = eval_form e
  promoted_to (suc n) e = promoting (promoted_to n) e (out-Core e)

  unfoldable pub value_form : Core → Doing Value
  value_form e = promoted_to (size-Core e) e

  -- ---- statements

  -- a local that is filled, if the optional is
  abbrev pub bound : Option Value → Doing Bool
  bound None = give false
  bound (Some v) = push v >> give true

  unfoldable pub bound_to : Core → Doing Bool
  bound_to e = opened e >>= λ o. bound o

  abbrev pub condition_at : Condition → Doing Bool
  condition_at (condition.Test e) = tested e
  condition_at (condition.Bind e) = bound_to e

  unfoldable pub condition_of : Condition → Doing Bool
  condition_of c = condition_at c

  -- conditions from left to right, up to the first that does not hold
  unfoldable pub conditions : List Condition → Doing Bool
  conditions [] = give true
  conditions (c ∷ cs) = condition_of c >>= λ t. choose t (conditions cs) (give false)

  -- a block, whose locals end with it
  unfoldable pub scoped : List CoreStmt → Doing Flow
  scoped ss = framed (block ss)

  unfoldable pub guarded : List Condition → List CoreStmt → Doing (Option Flow)
  guarded cs ss = conditions cs >>= λ t. choose t (block ss >>= λ flow. give (Some flow)) (give None)

  -- the statements under conditions, if these hold; the locals of both end with it
  unfoldable pub arm : StmtArm → Doing (Option Flow)
  arm a = framed (guarded a.conditions a.body)

  abbrev pub last_arm : Option (List CoreStmt) → Doing Flow
  last_arm None = give Next
  last_arm (Some ss) = scoped ss

  unfoldable pub arms : List StmtArm → Option (List CoreStmt) → Doing Flow
  arms [] last = last_arm last
  arms (a ∷ rest) last = arm a >>= λ ended. unless_ended ended (arms rest last)

  -- the first case that the value matches
  unfoldable pub case_of : Value → List StmtCase → Doing Flow
  case_of v [] = wrong
  case_of v (c ∷ cs) = choose (matches v c.patterns) (scoped c.body) (case_of v cs)

  unfoldable pub selection : Core → List StmtCase → Doing Flow
  selection e cs = do
    v ← i.eval e
    flow ← case_of v cs
    give (after_switch flow)

  -- a turn of a `while`: fuel is spent once its conditions hold
  unfoldable pub guarded_turn : List Condition → List CoreStmt → Doing (Option Flow)
  guarded_turn cs ss = conditions cs >>= λ t. choose t (spend >> (block ss >>= λ flow. give (ended_by flow))) (give (Some Next))

  unfoldable pub turn : List Condition → List CoreStmt → Doing (Option Flow)
  turn cs ss = framed (guarded_turn cs ss)

  -- at most n turns
  unfoldable pub turns : ℕ → List Condition → List CoreStmt → Doing Flow
  turns zero cs ss = trap Fuel
  turns (suc n) cs ss = turn cs ss >>= λ ended. unless_ended ended (turns n cs ss)

  -- Each turn spends fuel, and so does the test before it: there are no more turns than units of fuel.
  unfoldable pub repetition : List Condition → List CoreStmt → Doing Flow
  repetition cs ss = λ w. turns w.fuel cs ss w

  -- a turn of a `for` with its item as a local
  unfoldable pub item_turn : Value → List CoreStmt → Doing (Option Flow)
  item_turn v ss = push v >> (block ss >>= λ flow. give (ended_by flow))

  unfoldable pub framed_turn : Value → List CoreStmt → Doing (Option Flow)
  framed_turn v ss = framed (item_turn v ss)

  unfoldable pub turn_with : Value → List CoreStmt → Doing (Option Flow)
  turn_with v ss = spend >> framed_turn v ss

  unfoldable pub turn_for_each : List Value → List CoreStmt → Doing Flow
  turn_for_each [] ss = give Next
  turn_for_each (v ∷ vs) ss = turn_with v ss >>= λ ended. unless_ended ended (turn_for_each vs ss)

  -- n turns, for the numbers from k on
  unfoldable pub counted : ℕ → ℤ → List CoreStmt → Doing Flow
  counted zero k ss = give Next
  counted (suc n) k ss = turn_with (whole.Int k) ss >>= λ ended. unless_ended ended (counted n (k +ℤ pos 1) ss)

  unfoldable pub for_list : Core → List CoreStmt → Doing Flow
  for_list e ss = i.eval e >>= λ v. found (parts v) (λ vs. turn_for_each vs ss)

  unfoldable pub for_numbers : Over → List CoreStmt → Doing Flow
  for_numbers o ss = i.span o >>= λ numbers. counted numbers.count numbers.first ss

  abbrev pub for_at : Over → List CoreStmt → Doing Flow
  for_at (over.UpTo a b) ss = for_numbers (over.UpTo a b) ss
  for_at (over.Through a b) ss = for_numbers (over.Through a b) ss
  for_at (over.Indices e) ss = for_numbers (over.Indices e) ss
  for_at (over.List e) ss = for_list e ss

  unfoldable pub loop_over : Over → List CoreStmt → Doing Flow
  loop_over o ss = for_at o ss

  unfoldable pub local_of : Core → Doing Flow
  local_of e = i.eval e >>= λ v. push v >> give Next

  -- the indexes of the target, then the right side; the indexes are tested as it is written
  unfoldable pub assignment : Target → Core → Doing Flow
  assignment t e = do
    hops ← hops_from [] t.hops
    v ← i.eval e
    s ← spot_of t.root hops
    _ ← write_spot s v
    give Next

  unfoldable pub update_spot : Operator → Spot → Value → Doing Flow
  update_spot o s v = do
    old ← read_spot s
    new ← answered (operator.operation o old v)
    _ ← write_spot s new
    give Next

  unfoldable pub update : Operator → Target → Core → Doing Flow
  update o t e = do
    hops ← hops_from [] t.hops
    v ← i.eval e
    s ← spot_of t.root hops
    update_spot o s v

  abbrev pub return_at : Option Core → Doing Flow
  return_at None = give (Returned None)
  return_at (Some e) = i.eval e >>= λ v. give (Returned (Some v))

  unfoldable pub return_of : Option Core → Doing Flow
  return_of o = return_at o

  -- calls as statements, which are forms of their own
  unfoldable pub called : Invocation → Doing Flow
  called invocation = i.call invocation >>= λ o. give Next

  unfoldable pub made_change : Change → Doing Flow
  made_change c = i.change c >>= λ o. give Next

  abbrev pub exec_at : CoreStmt-F CoreStmt StmtArm StmtCase → Doing Flow
  exec_at (CoreStmt-F.Local e) = local_of e
  exec_at (CoreStmt-F.Assign t e) = assignment t e
  exec_at (CoreStmt-F.Update o t e) = update o t e
  exec_at (CoreStmt-F.If firsts last) = arms firsts last
  exec_at (CoreStmt-F.Switch e cs) = selection e cs
  exec_at (CoreStmt-F.For o ss) = loop_over o ss
  exec_at (CoreStmt-F.While cs ss) = repetition cs ss
  exec_at (CoreStmt-F.Return o) = return_of o
  exec_at CoreStmt-F.Break = give Broke
  exec_at CoreStmt-F.Continue = give Continued
  exec_at (CoreStmt-F.Invoke invocation) = called invocation
  exec_at (CoreStmt-F.Change c) = made_change c

  unfoldable pub exec_form : CoreStmt → Doing Flow
  exec_form s = exec_at (out-CoreStmt s)

  -- ---- ranges

  unfoldable pub range_by : (Bounds → Numbers) → Core → Core → Doing Numbers
  range_by numbers a b = do
    x ← i.eval a
    y ← i.eval b
    bounds ← answered (call.bounds_of x y)
    give (numbers bounds)

  unfoldable pub indices : Core → Doing Numbers
  indices e = i.eval e >>= λ v. found (parts v) (λ vs. give (places vs))

  abbrev pub span_at : Over → Doing Numbers
  span_at (over.UpTo a b) = range_by below a b
  span_at (over.Through a b) = range_by up_to a b
  span_at (over.Indices e) = indices e
  span_at (over.List e) = wrong

  unfoldable pub span_form : Over → Doing Numbers
  span_form o = span_at o

-- ---- where this many forms may still be entered

unfoldable mutual
  pub means : Program → ℕ → Core → Doing Value
  means p zero e = spend >> trap Calls
  means p (suc room) e = spend >> value_form (record { program = p; eval = means p room; exec = does p room; span = spans p room; call = calls p room; change = changes p room }) e

  pub does : Program → ℕ → CoreStmt → Doing Flow
  does p zero s = spend >> trap Calls
  does p (suc room) s = spend >> exec_form (record { program = p; eval = means p room; exec = does p room; span = spans p room; call = calls p room; change = changes p room }) s

  pub spans : Program → ℕ → Over → Doing Numbers
  spans p zero o = spend >> trap Calls
  spans p (suc room) o = spend >> span_form (record { program = p; eval = means p room; exec = does p room; span = spans p room; call = calls p room; change = changes p room }) o

  pub calls : Program → ℕ → Invocation → Doing (Option Value)
  calls p zero c = spend >> trap Calls
  calls p (suc room) c = spend >> invoked (record { program = p; eval = means p room; exec = does p room; span = spans p room; call = calls p room; change = changes p room }) c

  pub changes : Program → ℕ → Change → Doing (Option Value)
  changes p zero c = spend >> trap Calls
  changes p (suc room) c = spend >> changed (record { program = p; eval = means p room; exec = does p room; span = spans p room; call = calls p room; change = changes p room }) c

-- what the forms inside mean, where this many may still be entered
abbrev pub inner : Program → ℕ → Inside
inner p room = record { program = p; eval = means p room; exec = does p room; span = spans p room; call = calls p room; change = changes p room }
