-- Chains of postfix parts relate types of values, where it is so of the expressions inside.
use Rattle.std.specs.Prelude.{◌≡◌, ℕ, Bool, true, false, List, [], ◌∷◌, Option, Some, None, slice_get, ⊤, if◌then◌else◌, codes}
use Rattle.std.specs.Str.{bytes_eq}
use Rattle.std.proofs.Common.{refl, sym, ap, subst, ◌∙◌, inl, inr}
use Rattle.value_calls.specs.declared.calls.Property.{Property}
use Rattle.value_calls.specs.declared.calls.Property.TheVariants as property
use Rattle.swift_ast.specs.declared.tree.Arg.{Arg}
use Rattle.swift_ast.specs.declared.tree.ArgValue.TheOpen.{ExprForm-F, Part-F}
use Rattle.swift_ast.specs.declared.tree.Binder.TheVariants.{Let, Var}
use Rattle.swift_ast.specs.declared.tree.Expr.{Expr}
use Rattle.swift_ast.specs.declared.tree.Part.{Part, out-Part}
use Rattle.swift_ast.specs.declared.tree.Selector.TheVariants as selector
use Rattle.swift_core.specs.declared.ids.CodeId.{CodeId}
use Rattle.swift_core.specs.declared.table.Declaration.{Declaration}
use Rattle.swift_core.specs.declared.table.Kind.{Kind}
use Rattle.swift_core.specs.declared.table.Kind.TheVariants as kind
use Rattle.swift_core.specs.declared.table.ParamSignature.{ParamSignature}
use Rattle.swift_core.specs.declared.table.Signature.{Signature}
use Rattle.swift_core.specs.declared.table.SignatureForm.{SignatureForm}
use Rattle.swift_core.specs.declared.table.SignatureForm.TheVariants as form
use Rattle.swift_core.specs.declared.table.Table.{Table}
use Rattle.swift_core.specs.declared.term.Change.{Change}
use Rattle.swift_core.specs.declared.term.ChangeCall.TheVariants as calls
use Rattle.swift_core.specs.declared.term.Core.{Core}
use Rattle.swift_core.specs.declared.term.Core.TheVariants as core
use Rattle.swift_core.specs.declared.term.Invocation.{Invocation}
use Rattle.swift_core.specs.declared.term.Lookup.TheVariants as lookup
use Rattle.swift_core.specs.declared.term.Receiver.{Receiver}
use Rattle.swift_core.specs.declared.term.Target.{Target}
use Rattle.swift_core.specs.declared.ty.Ty.{Ty, out-Ty}
use Rattle.swift_core.specs.declared.ty.Ty.TheOpen.{Ty-F}
use Rattle.swift_core.specs.declared.ty.Ty.TheVariants as ty
use Rattle.swift_core.specs.Types.{element_at}
use Rattle.type_base.specs.Claims.{and_then, when, Then, some_is}
use Rattle.type_base.specs.Context.{Context}
use Rattle.type_base.specs.Names.{IsLocal, IsDeclaration, IsMember, member_of, member_exact, is_data}
use Rattle.type_base.specs.Rules.{Rule}
use Rattle.type_base.specs.declared.scope.Local.{Local}
use Rattle.type_base.specs.declared.scope.LocalKind.{LocalKind}
use Rattle.type_base.specs.declared.scope.LocalKind.TheVariants as kept
use Rattle.type_base.specs.declared.scope.Stance.{Stance}
use Rattle.type_base.specs.declared.scope.Stance.TheVariants as stance
use Rattle.post_rules.specs.declared.chained.BuiltIn.{BuiltIn}
use Rattle.post_rules.specs.declared.chained.BuiltIn.TheVariants as built_in
use Rattle.post_rules.specs.declared.chained.Chained.{Chained}
use Rattle.post_rules.specs.declared.chained.Chained.TheVariants as chained
use Rattle.post_rules.specs.declared.chained.Effect.TheVariants as effect
use Rattle.post_rules.specs.declared.chained.Method.{Method}
use Rattle.post_rules.specs.declared.chained.Method.TheVariants as method
use Rattle.post_rules.specs.Calls.{Called, Described, Made, Used, BuiltInCall, CallRule, is_data_struct, Callee, callee_in, callee_by, callee_at, after_call, after_change, function_called, mutating_called, change_call, method_parameters, method_result, asked, changed, built_in_parameters, built_in_called, described_at, no_arguments}
use Rattle.post_rules.specs.Chains.{First, IsOwnName, AnyName, NameRule, StartAt, BindingRule, value_of, MemberRule, element_of, forced, StepAt, Steps, ChainRule, Post}
use Rattle.post_rules.specs.Members.{property_named, asking_named, changing_named, member_at, member_in, property_of_text, property_ty, asked_of_list, property_of_list, value_member_at, value_member, place_member_in, place_member_of, changed_at_list, place_member_at, place_member, own_at, local_at, type_member_at, all_cases, type_member_in, type_member, built_in_member}
use Rattle.post_rules.specs.Places.{read, change}
use Rattle.post_rules.specs.Syntax.{Form, PartForm, form_of, is_labelled}
use Rattle.value_types.specs.Types as types
use Rattle.value_types.specs.Types.{Of, OptionOf, int_of, bool_of, text_of, list_of, optional_of, data_of, inside_of, FormOf}
use Rattle.value_types.specs.Exprs.{is_outer, Around, Keeps}

-- what a chain is so far has a type of values, if it has a type
abbrev pub StateOf : Table → Chained → Type 0
StateOf table (chained.Value c t) = Of table t
StateOf table (chained.Place p t) = Of table t
StateOf table (chained.Next at t) = Of table t
StateOf table (chained.Asks c t m) = Of table t
StateOf table (chained.Changes p t m) = Of table t
StateOf table chained.Itself = ⊤
StateOf table (chained.Named d) = ⊤
StateOf table (chained.BuiltIn b) = ⊤
StateOf table (chained.Function receiver d m) = ⊤
StateOf table (chained.Mutating p d m) = ⊤
StateOf table (chained.Toggles p) = ⊤
StateOf table (chained.Indices c) = ⊤
StateOf table (chained.Effect e) = ⊤

state_is : (table : Table) {s r : Chained} → ◌≡◌ {A = Option Chained} (Some s) (Some r) → StateOf table s → StateOf table r
state_is table {s = s} {r = r} e h = subst (StateOf table) (some_is s r e) h

found_so : {A B : Type 0} {o : Option A} {f : A → Option B} {r : B} (P : Type 0) → and_then o f ≡ Some r → ((x : A) → o ≡ Some x → f x ≡ Some r → P) → P
unfolding and_then
found_so {o = None} P e g = cc
found_so {o = Some x} P e g = g x refl e

when_so : {B : Type 0} (b : Bool) (o : Option B) {r : B} → when b o ≡ Some r → o ≡ Some r
when_so true o e = e
when_so false o e = cc

-- ---- names

own_none : {X : Type 0} (table : Table) (d : ℕ) (s : Stance) (m : ℕ × Signature) (r : Chained) → is_outer s ≡ true → own_at table d s m ≡ Some r → X
own_none table d stance.Outside m r a h = cc
own_none table d stance.Initial m r a h = cc
own_none table d stance.View m r a h = cc
own_none table d stance.Data m r a h = cc
own_none table d stance.Mutating m r a h = cc
own_none table d stance.Key m r a h = cc

local_keeps : (table : Table) (at : ℕ) (l : Local) (k : LocalKind) → Of table l.ty → StateOf table (local_at at l k)
local_keeps table at l kept.Let v = v
local_keeps table at l kept.Var v = v
local_keeps table at l kept.Place v = v
local_keeps table at l kept.Next v = v

any_keeps : (w : List ℕ) (cx : Context) (s : Chained) → Around cx → AnyName w cx s → StateOf cx.table s
unfolding AnyName First IsLocal IsDeclaration Then
any_keeps w cx s a (inl (l, (u, i), e)) = subst (StateOf cx.table) (sym e) (local_keeps cx.table l.0 l.1 l.1.kind (a.locals l.0 l.1 i.stands))
any_keeps w cx s a (inr (n, inl (m, own, (d, o, h)))) = own_none cx.table d cx.stance m s a.outer h
any_keeps w cx s a (inr (n, inr (n', inl (d, g, e)))) = subst (StateOf cx.table) (sym e) tt
any_keeps w cx s a (inr (n, inr (n', inr (n'', (b, g, e))))) = subst (StateOf cx.table) (sym e) tt

name_keeps : (w : List ℕ) (cx : Context) (s : Chained) → Around cx → NameRule w cx s → StateOf cx.table s
unfolding NameRule
name_keeps w cx s a (u, h) = any_keeps w cx s a h

-- ---- members

text_keeps : (table : Table) (c : Core) (p : Property) (r : Chained) → property_of_text c p ≡ Some r → StateOf table r
text_keeps table c property.Count r h = state_is table h (int_of table)
text_keeps table c property.IsEmpty r h = state_is table h (bool_of table)
text_keeps table c property.First r h = cc
text_keeps table c property.Last r h = cc

property_keeps : (table : Table) (t : Ty) (p : Property) → Of table t → Of table (property_ty t p)
property_keeps table t property.Count v = int_of table
property_keeps table t property.IsEmpty v = bool_of table
property_keeps table t property.First v = optional_of table t v
property_keeps table t property.Last v = optional_of table t v

asked_keeps : (table : Table) (c : Core) (t : Ty) (w : List ℕ) (o : Option Method) (r : Chained) → Of table t → asked_of_list c t w o ≡ Some r → StateOf table r
asked_keeps table c t w (Some m) r v h = state_is table h v
asked_keeps table c t w None r v h = state_is table {s = chained.Indices c} (when_so _ _ h) tt

list_keeps : (table : Table) (c : Core) (t : Ty) (w : List ℕ) (o : Option Property) (r : Chained) → Of table t → property_of_list c t w o ≡ Some r → StateOf table r
list_keeps table c t w (Some p) r v h = state_is table h (property_keeps table t p v)
list_keeps table c t w None r v h = asked_keeps table c t w (asking_named w) r v h

member_keeps : (table : Table) (k : Kind) (c : Core) (d m : ℕ) (code : CodeId) (f : SignatureForm) (r : Chained) → FormOf table k f → member_at c d m code f ≡ Some r → StateOf table r
member_keeps table k c d m code (form.Stored at b (Some t) a) r v h = state_is table h v
member_keeps table k c d m code (form.Computed (Some t)) r v h = state_is table h v
member_keeps table k c d m code (form.Function ps result false) r v h = state_is table h tt
member_keeps table k c d m code _ r v h = cc

place_keeps : (table : Table) (k : Kind) (p : Target) (d m : ℕ) (code : CodeId) (f : SignatureForm) (r : Chained) → FormOf table k f → place_member_in p d m code f ≡ Some r → StateOf table r
place_keeps table k p d m code (form.Stored at Var (Some t) a) r v h = state_is table h v
place_keeps table k p d m code (form.Function ps result true) r v h = state_is table h tt
place_keeps table k p d m code f r v h = member_keeps table k (read p) d m code f r v h

module _ (cx : Context) (a : Around cx) where
  named_keeps : (c : Core) (d : ℕ) (declaration : Declaration) → slice_get cx.table.declarations d ≡ Some declaration → (w : List ℕ) (o : Option (ℕ × Signature)) (r : Chained)
      → member_of w declaration ≡ o → member_in c d o ≡ Some r → StateOf cx.table r
  unfolding IsMember
  named_keeps c d declaration sd w None r e h = cc
  named_keeps c d declaration sd w (Some m) r e h = member_keeps cx.table declaration.kind c d m.0 m.1.code m.1.form r (a.types d m.0 declaration m.1 sd ((member_exact w declaration m).0 e).1) h

  value_layer : (c : Core) (w : List ℕ) (t : Ty) (l : Ty-F Ty) (r : Chained) → out-Ty t ≡ l → Of cx.table t → value_member_at cx.table c w l ≡ Some r → StateOf cx.table r
  value_layer c w t (Ty-F.Named d) r e v h = found_so (StateOf cx.table r) h (λ declaration sd k. named_keeps c d declaration sd w (member_of w declaration) r refl k)
  value_layer c w t (Ty-F.List u) r e v h = list_keeps cx.table c u w (property_named w) r (types.element_of cx.table t u v (ap element_at e)) h
  value_layer c w t Ty-F.Text r e v h = found_so (StateOf cx.table r) h (λ p sp k. text_keeps cx.table c p r k)
  value_layer c w t Ty-F.Int r e v h = cc
  value_layer c w t Ty-F.Bool r e v h = cc
  value_layer c w t (Ty-F.Optional u) r e v h = cc

  value_keeps : (c : Core) (t : Ty) (w : List ℕ) (r : Chained) → Of cx.table t → value_member cx.table c t w ≡ Some r → StateOf cx.table r
  unfolding value_member
  value_keeps c t w r v h = value_layer c w t (out-Ty t) r refl v h

  named_place_keeps : (p : Target) (d : ℕ) (declaration : Declaration) → slice_get cx.table.declarations d ≡ Some declaration → (w : List ℕ) (o : Option (ℕ × Signature)) (r : Chained)
      → member_of w declaration ≡ o → place_member_of p d o ≡ Some r → StateOf cx.table r
  unfolding IsMember
  named_place_keeps p d declaration sd w None r e h = cc
  named_place_keeps p d declaration sd w (Some m) r e h = place_keeps cx.table declaration.kind p d m.0 m.1.code m.1.form r (a.types d m.0 declaration m.1 sd ((member_exact w declaration m).0 e).1) h

  list_place_keeps : (p : Target) (t : Ty) (w : List ℕ) (o : Option Method) (r : Chained) → Of cx.table t → changed_at_list p t w o ≡ Some r → StateOf cx.table r
  list_place_keeps p t w (Some m) r v h = state_is cx.table h v
  list_place_keeps p t w None r v h = list_keeps cx.table (read p) t w (property_named w) r v h

  place_layer : (p : Target) (w : List ℕ) (t : Ty) (l : Ty-F Ty) (r : Chained) → out-Ty t ≡ l → Of cx.table t → place_member_at cx.table p w l ≡ Some r → StateOf cx.table r
  place_layer p w t (Ty-F.Named d) r e v h = found_so (StateOf cx.table r) h (λ declaration sd k. named_place_keeps p d declaration sd w (member_of w declaration) r refl k)
  place_layer p w t (Ty-F.List u) r e v h = list_place_keeps p u w (changing_named w) r (types.element_of cx.table t u v (ap element_at e)) h
  place_layer p w t Ty-F.Text r e v h = found_so (StateOf cx.table r) h (λ q sq k. text_keeps cx.table (read p) q r k)
  place_layer p w t Ty-F.Bool r e v h = state_is cx.table {s = chained.Toggles p} (when_so _ _ h) tt
  place_layer p w t Ty-F.Int r e v h = cc
  place_layer p w t (Ty-F.Optional u) r e v h = cc

  place_value_keeps : (p : Target) (t : Ty) (w : List ℕ) (r : Chained) → Of cx.table t → place_member cx.table p t w ≡ Some r → StateOf cx.table r
  unfolding place_member
  place_value_keeps p t w r v h = place_layer p w t (out-Ty t) r refl v h

  -- ---- members of a declaration

  static_keeps : (d : ℕ) (declaration : Declaration) → slice_get cx.table.declarations d ≡ Some declaration → (code : CodeId) (f : SignatureForm) (r : Chained) → FormOf cx.table declaration.kind f
      → type_member_at d code f ≡ Some r → StateOf cx.table r
  static_keeps d declaration sd code (form.Static (Some t)) r v h = state_is cx.table h v
  static_keeps d declaration sd code (form.Case at) r v h = state_is cx.table h (data_of cx.table d declaration sd v)
  static_keeps d declaration sd code _ r v h = cc

  cases_keep : (d : ℕ) (declaration : Declaration) → slice_get cx.table.declarations d ≡ Some declaration → (f : Kind) (r : Chained) → declaration.kind ≡ f → all_cases d f ≡ Some r → StateOf cx.table r
  cases_keep d declaration sd (kind.Enum true n) r e h = state_is cx.table h (list_of cx.table (ty.Named d) (data_of cx.table d declaration sd (ap is_data e)))
  cases_keep d declaration sd _ r e h = cc

  type_in_keeps : (d : ℕ) (declaration : Declaration) → slice_get cx.table.declarations d ≡ Some declaration → (w : List ℕ) (o : Option (ℕ × Signature)) (r : Chained)
      → member_of w declaration ≡ o → type_member_in d declaration.kind w o ≡ Some r → StateOf cx.table r
  unfolding IsMember
  type_in_keeps d declaration sd w (Some m) r e h = static_keeps d declaration sd m.1.code m.1.form r (a.types d m.0 declaration m.1 sd ((member_exact w declaration m).0 e).1) h
  type_in_keeps d declaration sd w None r e h = cases_keep d declaration sd declaration.kind r refl (when_so _ _ h)

  type_keeps : (d : ℕ) (w : List ℕ) (r : Chained) → type_member cx.table d w ≡ Some r → StateOf cx.table r
  unfolding type_member
  type_keeps d w r h = found_so (StateOf cx.table r) h (λ declaration sd k. type_in_keeps d declaration sd w (member_of w declaration) r refl k)

  number_keeps : (b c : Bool) (x y : Core) (r : Chained) → (if b then Some (chained.Value x ty.Int) else if c then Some (chained.Value y ty.Int) else None) ≡ Some r → StateOf cx.table r
  number_keeps true c x y r h = state_is cx.table h (int_of cx.table)
  number_keeps false true x y r h = state_is cx.table h (int_of cx.table)
  number_keeps false false x y r h = cc

  built_in_keeps : (b : BuiltIn) (w : List ℕ) (r : Chained) → built_in_member b w ≡ Some r → StateOf cx.table r
  built_in_keeps built_in.Int w r h = number_keeps (bytes_eq w (codes "max")) (bytes_eq w (codes "min")) _ _ r h
  built_in_keeps built_in.Text w r h = cc
  built_in_keeps built_in.Absolute w r h = cc
  built_in_keeps built_in.Min w r h = cc
  built_in_keeps built_in.Max w r h = cc

  member_rule_keeps : (s : Chained) (w : List ℕ) (r : Chained) → StateOf cx.table s → MemberRule s w cx r → StateOf cx.table r
  unfolding MemberRule
  member_rule_keeps (chained.Value c t) w r v h = value_keeps c t w r v h
  member_rule_keeps (chained.Place p t) w r v h = place_value_keeps p t w r v h
  member_rule_keeps chained.Itself w r v (m, o, (d, od, h)) = own_none cx.table d cx.stance m r a.outer h
  member_rule_keeps (chained.Named d) w r v h = type_keeps d w r h
  member_rule_keeps (chained.BuiltIn b) w r v h = built_in_keeps b w r h
  member_rule_keeps _ w r v h = absurd h

  -- ---- functions of the program

  result_of : (k : Kind) (code : CodeId) (f : SignatureForm) (used : Callee) → FormOf cx.table k f → callee_by code f ≡ Some used → OptionOf cx.table used.result
  result_of k code (form.Function ps result is_mutating) used v h = subst (λ (u : Callee). OptionOf cx.table u.result) (some_is (record { code = code; parameters = ps; result = result }) used h) v
  result_of k code _ used v h = cc

  callee_result : (d m : ℕ) (declaration : Declaration) → slice_get cx.table.declarations d ≡ Some declaration → (o : Option Signature) (used : Callee) → slice_get declaration.members m ≡ o
      → callee_in o ≡ Some used → OptionOf cx.table used.result
  callee_result d m declaration sd None used e h = cc
  callee_result d m declaration sd (Some s) used e h = result_of declaration.kind s.code s.form used (a.types d m declaration s sd e) h

  callee_keeps : (d m : ℕ) (used : Callee) → callee_at cx.table d m ≡ Some used → OptionOf cx.table used.result
  unfolding callee_at
  callee_keeps d m used h = found_so (OptionOf cx.table used.result) h (λ declaration sd k. callee_result d m declaration sd (slice_get declaration.members m) used refl k)

  after_keeps : (i : Invocation) (o : Option Ty) → OptionOf cx.table o → StateOf cx.table (after_call i o)
  after_keeps i None v = tt
  after_keeps i (Some t) v = v

  change_keeps : (x : Change) (o : Option Ty) → OptionOf cx.table o → StateOf cx.table (after_change x o)
  change_keeps x None v = tt
  change_keeps x (Some t) v = v

  -- ---- calls

  data_kind : (f : Kind) → is_data_struct f ≡ true → is_data f ≡ true
  data_kind (kind.Data b) e = refl
  data_kind _ e = cc

  method_keeps : (m : Method) (t : Ty) → Of cx.table t → OptionOf cx.table (method_result m t)
  method_keeps method.Remove t v = v
  method_keeps method.RemoveFirst t v = v
  method_keeps method.RemoveLast t v = v
  method_keeps method.Contains t v = tt
  method_keeps method.FirstIndex t v = tt
  method_keeps method.Append t v = tt
  method_keeps method.Insert t v = tt
  method_keeps method.RemoveAll t v = tt
  method_keeps method.SwapAt t v = tt

  asks_keep : (m : Method) (c : Core) (cs : List Core) (r : Chained) → asked m c cs ≡ Some r → StateOf cx.table r
  asks_keep method.Contains c (x ∷ []) r h = state_is cx.table h (bool_of cx.table)
  asks_keep method.FirstIndex c (x ∷ []) r h = state_is cx.table h (optional_of cx.table ty.Int (int_of cx.table))
  asks_keep m c cs r h = cc

  changed_keeps : (p : Target) (t : Ty) (m : Method) (b : Bool) (cs : List Core) (r : Chained) → Of cx.table t → changed p t m b cs ≡ Some r → StateOf cx.table r
  changed_keeps p t m b cs r v h = found_so (StateOf cx.table r) h (λ call sc k. state_is cx.table k (change_keeps (change p call) (method_result m t) (method_keeps m t v)))

  standing_keeps : (b : BuiltIn) (cs : List Core) (r : Chained) → built_in_called b cs ≡ Some r → StateOf cx.table r
  standing_keeps built_in.Absolute (x ∷ []) r h = state_is cx.table h (int_of cx.table)
  standing_keeps built_in.Text (x ∷ n ∷ []) r h = state_is cx.table h (text_of cx.table)
  standing_keeps built_in.Min (x ∷ y ∷ []) r h = state_is cx.table h (int_of cx.table)
  standing_keeps built_in.Max (x ∷ y ∷ []) r h = state_is cx.table h (int_of cx.table)
  standing_keeps b cs r h = cc

  described_layer : (c : Core) (l : Ty-F Ty) (r : Chained) → described_at c l ≡ Some r → StateOf cx.table r
  described_layer c Ty-F.Int r h = state_is cx.table h (text_of cx.table)
  described_layer c Ty-F.Bool r h = state_is cx.table h (text_of cx.table)
  described_layer c _ r h = cc

  nothing_taken : (x r : Chained) (cs : List Core) → StateOf cx.table x → no_arguments x cs ≡ Some r → StateOf cx.table r
  nothing_taken x r [] v e = state_is cx.table e v
  nothing_taken x r (c ∷ cs) v e = cc

  module _ (k : Expr → Rule) (keeps : (e : Expr) → Keeps (k e)) where
    called_keeps : (ps : List ParamSignature) (make : List Core → Option Chained) (args : List Arg) (r : Chained) → ((cs : List Core) → make cs ≡ Some r → StateOf cx.table r)
        → Called k ps make args cx r → StateOf cx.table r
    unfolding Called
    called_keeps ps make args r made (cs, h, e) = made cs e

    used_keeps : (d m : ℕ) (make : Callee → List Core → Chained) (args : List Arg) (r : Chained) → ((used : Callee) (cs : List Core) → OptionOf cx.table used.result → StateOf cx.table (make used cs))
        → Used k d m make args cx r → StateOf cx.table r
    unfolding Used
    used_keeps d m make args r made (used, c, h) = called_keeps used.parameters (λ cs. Some (make used cs)) args r (λ cs e. state_is cx.table e (made used cs (callee_keeps d m used c))) h

    made_keeps : (d : ℕ) (args : List Arg) (r : Chained) → Made k (BindingRule k) d args cx r → StateOf cx.table r
    unfolding Made
    made_keeps d args r (declaration, sd, (is, (fs, f, e))) = subst (StateOf cx.table) (sym e) (data_of cx.table d declaration sd (data_kind declaration.kind is))

    described_keeps : (args : List Arg) (r : Chained) → Described k args cx r → StateOf cx.table r
    unfolding Described
    described_keeps [] r h = absurd h
    described_keeps (x ∷ y ∷ args) r h = absurd h
    described_keeps (x ∷ []) r (e, ae, (y, h, d)) = described_layer y.0 (out-Ty y.1) r d

    stands_keeps : (b : BuiltIn) (args : List Arg) (r : Chained) → Called k (built_in_parameters b) (built_in_called b) args cx r → StateOf cx.table r
    stands_keeps b args r h = called_keeps (built_in_parameters b) (built_in_called b) args r (λ cs e. standing_keeps b cs r e) h

    built_in_call_keeps : (b : BuiltIn) (l : Bool) (args : List Arg) (r : Chained) → BuiltInCall k b l args cx r → StateOf cx.table r
    unfolding BuiltInCall
    built_in_call_keeps built_in.Int l args r h = absurd h
    built_in_call_keeps built_in.Text false args r h = described_keeps args r h
    built_in_call_keeps built_in.Text true args r h = stands_keeps built_in.Text args r h
    built_in_call_keeps built_in.Absolute l args r h = stands_keeps built_in.Absolute args r h
    built_in_call_keeps built_in.Min l args r h = stands_keeps built_in.Min args r h
    built_in_call_keeps built_in.Max l args r h = stands_keeps built_in.Max args r h

    call_keeps : (s : Chained) (args : List Arg) (r : Chained) → StateOf cx.table s → CallRule k (BindingRule k) s args cx r → StateOf cx.table r
    unfolding CallRule
    call_keeps (chained.Named d) args r v h = made_keeps d args r h
    call_keeps (chained.BuiltIn b) args r v h = built_in_call_keeps b (is_labelled args) args r h
    call_keeps (chained.Next at t) args r v h =
        called_keeps [] (no_arguments (chained.Value (core.Look (lookup.Local at)) t)) args r (λ cs e. nothing_taken (chained.Value (core.Look (lookup.Local at)) t) r cs v e) h
    call_keeps (chained.Function receiver d m) args r v h = used_keeps d m (function_called receiver) args r (λ used cs o. after_keeps _ used.result o) h
    call_keeps (chained.Mutating p d m) args r v h = used_keeps d m (mutating_called p) args r (λ used cs o. change_keeps _ used.result o) h
    call_keeps (chained.Asks c t m) args r v h = called_keeps (method_parameters m (is_labelled args) t) (asked m c) args r (λ cs e. asks_keep m c cs r e) h
    call_keeps (chained.Changes p t m) args r v h =
        called_keeps (method_parameters m (is_labelled args) t) (changed p t m (is_labelled args)) args r (λ cs e. changed_keeps p t m (is_labelled args) cs r v e) h
    call_keeps (chained.Toggles p) args r v h =
        called_keeps [] (no_arguments (chained.Effect (effect.Change (change p calls.Toggle)))) args r (λ cs e. nothing_taken (chained.Effect (effect.Change (change p calls.Toggle))) r cs tt e) h
    call_keeps (chained.Value c t) args r v h = absurd h
    call_keeps (chained.Place p t) args r v h = absurd h
    call_keeps chained.Itself args r v h = absurd h
    call_keeps (chained.Indices c) args r v h = absurd h
    call_keeps (chained.Effect e) args r v h = absurd h

    -- ---- parts

    element_keeps : (s : Chained) (i : Core) (r : Chained) → StateOf cx.table s → element_of s i ≡ Some r → StateOf cx.table r
    element_keeps (chained.Value c t) i r v h = found_so (StateOf cx.table r) h (λ u e q. state_is cx.table q (types.element_of cx.table t u v e))
    element_keeps (chained.Place p t) i r v h = found_so (StateOf cx.table r) h (λ u e q. state_is cx.table q (types.element_of cx.table t u v e))
    element_keeps _ i r v h = cc

    value_is : (s : Chained) (x : Core × Ty) → value_of s ≡ Some x → StateOf cx.table s → Of cx.table x.1
    value_is (chained.Value c t) x e v = subst (λ (y : Core × Ty). Of cx.table y.1) (some_is (c, t) x e) v
    value_is (chained.Place p t) x e v = subst (λ (y : Core × Ty). Of cx.table y.1) (some_is (read p, t) x e) v
    value_is _ x e v = cc

    forced_keeps : (x : Core × Ty) (r : Chained) → Of cx.table x.1 → forced x ≡ Some r → StateOf cx.table r
    forced_keeps x r v h = found_so (StateOf cx.table r) h (λ t e q. state_is cx.table q (inside_of cx.table x.1 t v e))

    step_keeps : (s : Chained) (part : PartForm) (r : Chained) → StateOf cx.table s → StepAt k s part cx r → StateOf cx.table r
    unfolding StepAt
    step_keeps s (Part-F.Member (selector.Name w)) r v h = member_rule_keeps s w r v h
    step_keeps s (Part-F.Call args None) r v h = call_keeps s args r v h
    step_keeps s (Part-F.Index e) r v (c, w, q) = element_keeps s c r v q
    step_keeps s Part-F.Force r v (x, o, q) = forced_keeps x r (value_is s x o v) q
    step_keeps s _ r v h = absurd h

    steps_keep : (s : Chained) (parts : List Part) (r : Chained) → StateOf cx.table s → Steps k s parts cx r → StateOf cx.table r
    unfolding Steps
    steps_keep s [] r v (b, e) = subst (StateOf cx.table) (sym e) v
    steps_keep s (part ∷ parts) r v (b, (q, g, h)) = steps_keep q parts r (step_keeps s (out-Part part) q v g) h

    started : (e : Expr) (s : Chained) → ((x : Core × Ty) × k e cx None x × (s ≡ chained.Value x.0 x.1)) → StateOf cx.table s
    started e s (x, h, q) = subst (StateOf cx.table) (sym q) (keeps e cx None x a tt h)

    start_keeps : (e : Expr) (F : Form) (s : Chained) → StartAt k e F cx s → StateOf cx.table s
    unfolding StartAt
    start_keeps e (ExprForm-F.Name w) s h = name_keeps w cx s a h
    start_keeps e ExprForm-F.Itself s (m, q) = subst (StateOf cx.table) (sym q) tt
    start_keeps e (ExprForm-F.Ternary c x y) s h = started e s h
    start_keeps e (ExprForm-F.Chain x ls) s h = started e s h
    start_keeps e (ExprForm-F.Prefix ss x) s h = started e s h
    start_keeps e (ExprForm-F.Post x ps) s h = started e s h
    start_keeps e (ExprForm-F.Int n) s h = started e s h
    start_keeps e (ExprForm-F.ExprForm::Text ss) s h = started e s h
    start_keeps e ExprForm-F.True s h = started e s h
    start_keeps e ExprForm-F.False s h = started e s h
    start_keeps e ExprForm-F.Nil s h = started e s h
    start_keeps e (ExprForm-F.Dollar w) s h = started e s h
    start_keeps e (ExprForm-F.Implicit w) s h = started e s h
    start_keeps e (ExprForm-F.List es) s h = started e s h

    post_has : (e : Expr) (parts : List Part) (want : Option Ty) (r : Core × Ty) → Post k e parts cx want r → Of cx.table r.1
    unfolding Post ChainRule
    post_has e parts want r (s, (b, h, g), o) = value_is s r o (steps_keep b parts s (start_keeps e (form_of e) b h) g)

pub post_keeps : (k : Expr → Rule) → ((e : Expr) → Keeps (k e)) → (e : Expr) (parts : List Part) → Keeps (Post k e parts)
post_keeps k keeps e parts cx want r a w h = post_has cx a k keeps e parts want r h
