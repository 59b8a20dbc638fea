-- What the rules of members relate is well typed where their signatures say so.
use Rattle.std.specs.Prelude.{◌≡◌, ℕ, Bool, true, false, List, [], ◌∷◌, length, map, Option, Some, None, slice_get}
use Rattle.std.proofs.Common.{refl, sym, ap, subst, ◌∙◌, arith}
use Rattle.std.proofs.lemmas.List.{length-map}
use Rattle.std.proofs.lemmas.Option.{slice_get_within}
use Rattle.swift_ast.specs.declared.piece.MemberForm.{MemberForm}
use Rattle.swift_ast.specs.declared.piece.MemberForm.TheVariants as member
use Rattle.swift_ast.specs.declared.piece.Param.{Param}
use Rattle.swift_ast.specs.declared.piece.ResultName.{ResultName}
use Rattle.swift_ast.specs.declared.tree.Binder.{Binder}
use Rattle.swift_ast.specs.declared.tree.Expr.{Expr}
use Rattle.swift_ast.specs.declared.tree.Stmt.{Stmt}
use Rattle.swift_ast.specs.declared.type_name.TypeName.{TypeName}
use Rattle.swift_core.specs.Context as cores
use Rattle.swift_core.specs.Context.{Itself, initial_of}
use Rattle.swift_core.specs.Types.{inside_at}
use Rattle.swift_core.specs.Typing as typing
use Rattle.swift_core.specs.Typing.{Flow, FitsSignature, GivesResult, GivesValue, HasInitial, HasPreference, IsMain, Items, PlacesStand, BlocksStand, itself_in, itself_in_function, in_body}
use Rattle.swift_core.specs.declared.code.Code.{Code}
use Rattle.swift_core.specs.declared.code.CodeForm.{CodeForm}
use Rattle.swift_core.specs.declared.code.CodeForm.TheVariants as code
use Rattle.swift_core.specs.declared.code.CoreMember.{CoreMember}
use Rattle.swift_core.specs.declared.code.LocalType.{LocalType}
use Rattle.swift_core.specs.declared.item.CoreItem.{CoreItem}
use Rattle.swift_core.specs.declared.stmt.CoreStmt.{CoreStmt}
use Rattle.swift_core.specs.declared.table.Argument.{Argument}
use Rattle.swift_core.specs.declared.table.Declaration.{Declaration}
use Rattle.swift_core.specs.declared.table.EnvironmentKey.{EnvironmentKey}
use Rattle.swift_core.specs.declared.table.Initial.{Initial}
use Rattle.swift_core.specs.declared.table.Initial.TheVariants as initial
use Rattle.swift_core.specs.declared.table.Kind.{Kind}
use Rattle.swift_core.specs.declared.table.Kind.TheVariants as kind
use Rattle.swift_core.specs.declared.table.ParamSignature.{ParamSignature}
use Rattle.swift_core.specs.declared.table.PreferenceKey.{PreferenceKey}
use Rattle.swift_core.specs.declared.table.Signature.{Signature}
use Rattle.swift_core.specs.declared.table.SignatureForm.{SignatureForm}
use Rattle.swift_core.specs.declared.table.SignatureForm.TheVariants as form
use Rattle.swift_core.specs.declared.table.Table.{Table}
use Rattle.swift_core.specs.declared.ty.Ty.{Ty, out-Ty}
use Rattle.type_base.specs.Claims.{some_is}
use Rattle.type_base.specs.Context.{Context}
use Rattle.type_base.specs.LocalTypes.{local_type}
use Rattle.type_base.specs.Scopes.{entered}
use Rattle.type_base.specs.declared.scope.Local.{Local}
use Rattle.type_base.specs.declared.scope.Stance.{Stance}
use Rattle.type_base.specs.declared.scope.Stance.TheVariants as stance
use Rattle.stmt_rules.specs.Rules.{TypedBody}
use Rattle.view_rules.specs.Builds.{ItemsRule}
use Rattle.view_rules.specs.Forms.{is_view}
use Rattle.view_rules.specs.Items.{Built}
use Rattle.view_rules.specs.Scenes.{Scene}
use Rattle.member_rules.specs.Shapes.{code_of, of_builder, inside, stance_of, function_stance}
use Rattle.member_rules.specs.Members.{InitialOf, ReadsKey, ComputedOf, FunctionOf, BuilderOf, BuilderIn, BuilderFunctionOf, ReduceOf, PropertyOf, StatementsOf, CallOf, MemberOf}
use Rattle.expr_cores.specs.Contexts.{core_locals, itself_of, Fits}
use Rattle.post_cores.specs.Members.{found_so}
use Rattle.value_cores.specs.Values.{wanted_good}
use Rattle.stmt_cores.specs.Statements.{body_good}
use Rattle.view_cores.specs.Blocks.{ViewIsSelf, Between, front_same}
use Rattle.view_cores.specs.Places.{all_valued}
use Rattle.view_cores.specs.Laws.{ItemsTyped, builders_typed, scenes_typed}
use Rattle.view_cores.specs.Types.{same_locals}
use Rattle.member_cores.specs.Asked.{Starts, StartsAsWritten}
use Rattle.member_cores.specs.Parameters.{parameters_good, folding, folding_good}

-- the code of what is put together of its parts
main_of : (m : CoreMember) (types : List LocalType) (F : CodeForm) (ts : List Ty) → m.code ≡ Some (code_of types F) → map cores.local_of types ≡ map cores.Local.valued ts → IsMain m ts F
main_of m types F ts e same =
    IsMain.main {c = code_of types F} e refl refl (sym (length-map types cores.local_of) ∙ ap (λ (ls : List cores.Local). length ls) same ∙ length-map ts cores.Local.valued) same

-- the types of parameters that are locals
parameter_types : (ls : List Local) (ts : List Ty) → core_locals ls ≡ map cores.Local.valued ts → map cores.local_of (map local_type ls) ≡ map cores.Local.valued ts
parameter_types ls ts e = same_locals ls ∙ e

-- code that gives a value where a result is asked for
value_of : {cx : cores.Context} {ls : List cores.Local} {c : CodeForm} {t : Ty} → GivesResult cx ls c (Some t) → GivesValue cx ls c t
value_of (GivesResult.with_value g) = g

-- and code that gives none
without_value : {cx : cores.Context} {ls : List cores.Local} {ss : List CoreStmt} → GivesResult cx ls (code.Statements ss) None → (f : Flow) × typing.Statements cx None in_body ls ss f
without_value (GivesResult.without_value {f = f} h) = (f, h)

-- ---- what `self` is

same_itself : (k : Kind) → itself_of (stance_of k) ≡ itself_in k
same_itself (kind.Data i) = refl
same_itself (kind.Enum i cases) = refl
same_itself kind.View = refl
same_itself kind.App = refl
same_itself (kind.Key k) = refl

same_in_function : (mutating : Bool) (k : Kind) → itself_of (function_stance mutating k) ≡ itself_in_function mutating k
same_in_function true k = refl
same_in_function false k = same_itself k

view_stance : (k : Kind) → is_view k ≡ true → stance_of k ≡ stance.View
view_stance kind.View e = refl
view_stance (kind.Data i) e = cc
view_stance (kind.Enum i cases) e = cc
view_stance kind.App e = cc
view_stance (kind.Key k) e = cc

abbrev pub core_in : Table → ℕ → Itself → List Code → cores.Context
core_in table d s blocks = record { table = table; owner = Some d; itself = s; blocks = blocks }

module _ (table : Table) (fit : Fits table) (d : ℕ) (owner : Declaration) (so : slice_get table.declarations d ≡ Some owner) where
  -- `self` is the view in the members of a view
  pub view_self : ViewIsSelf (inside table (Some d) (stance_of owner.kind))
  view_self e declaration oe sd v =
      let there : d ≡ e = some_is d e oe in
      let same : declaration ≡ owner = some_is declaration owner (sym sd ∙ ap (λ n. slice_get table.declarations n) (sym there) ∙ so) in
      view_stance owner.kind (ap (λ (x : Declaration). is_view x.kind) (sym same) ∙ v)

  -- ---- properties

  nil_good : (o : Option Initial) (a : Argument) (t : Option Ty) (u : Ty) (m : CoreMember) → initial_of a ≡ o → t ≡ Some u → m.code ≡ None → (initial_of a ≡ Some initial.Written → ⊥)
      → (initial_of a ≡ Some initial.Nil → (v : Ty) × (t ≡ Some v) × ((w : Ty) × (inside_at (out-Ty v) ≡ Some w))) → HasInitial (core_in table d Itself.no_self m.blocks) m u a
  nil_good None a t u m e te c n is = HasInitial.no_initial e c
  nil_good (Some initial.Written) a t u m e te c n is = absurd (n e)
  nil_good (Some initial.Nil) a t u m e te c n is =
      let o = is e in
      let same : o.0 ≡ u = some_is o.0 u (sym o.1 ∙ te) in
      HasInitial.initial_nil e (ap (λ (x : Ty). inside_at (out-Ty x)) (sym same) ∙ o.2.1) c

  initial_good : (a : Argument) (t : Option Ty) (value : Option Expr) (m : CoreMember) → Starts a value
      → (initial_of a ≡ Some initial.Nil → (v : Ty) × (t ≡ Some v) × ((w : Ty) × (inside_at (out-Ty v) ≡ Some w))) → InitialOf t value (inside table (Some d) stance.Initial) m
      → (u : Ty) × (t ≡ Some u) × HasInitial (core_in table d Itself.no_self m.blocks) m u a
  unfolding InitialOf
  initial_good a t None m s is (u, te, q) = (u, te, nil_good (initial_of a) a t u m refl te (ap (λ (x : CoreMember). x.code) q) s is)
  initial_good a t (Some e) m s is (u, te, (c, w, q)) = (
    u,
    te,
    HasInitial.initial_written s (main_of m [] (code.Value c) [] (ap (λ (x : CoreMember). x.code) q) refl) (wanted_good e u m.blocks (inside table (Some d) stance.Initial) c fit w),
  )

  binding_good : (k : Kind) (at : ℕ) (t : Option Ty) (m : CoreMember) → InitialOf t None (inside table (Some d) stance.Initial) m → FitsSignature table d k m (form.Binding at t)
  unfolding InitialOf
  binding_good k at t m (u, te, q) = subst (λ (x : Option Ty). FitsSignature table d k m (form.Binding at x)) (sym te) (FitsSignature.binding (ap (λ (x : CoreMember). x.code) q))

  static_good : (k : Kind) (t : Option Ty) (e : Expr) (m : CoreMember) → InitialOf t (Some e) (inside table (Some d) stance.Initial) m → FitsSignature table d k m (form.Static t)
  unfolding InitialOf
  static_good k t e m (u, te, (c, w, q)) =
      subst (λ (x : Option Ty). FitsSignature table d k m (form.Static x)) (sym te)
      (FitsSignature.static_value (main_of m [] (code.Value c) [] (ap (λ (x : CoreMember). x.code) q) refl)
      (GivesValue.by_term (wanted_good e u m.blocks (inside table (Some d) stance.Initial) c fit w)))

  key_good : (k : Kind) (n : ℕ) (declared : Option TypeName) (m : CoreMember) → ReadsKey n declared (inside table (Some d) stance.Initial) m → FitsSignature table d k m (form.Environment n)
  unfolding ReadsKey
  key_good k n declared m (t, e, (w, q)) =
      found_so (FitsSignature table d k m (form.Environment n)) e (λ (key : EnvironmentKey) sk g. FitsSignature.reads_environment sk (ap (λ (x : CoreMember). x.code) q))

  module _ (s : Signature) (at : ℕ) (ss : slice_get owner.members at ≡ Some s) where
    stored_good : (k : Kind) (n : ℕ) (b : Binder) (t : Option Ty) (a : Argument) (value : Option Expr) (m : CoreMember) → s.form ≡ form.Stored n b t a → Starts a value
        → InitialOf t value (inside table (Some d) stance.Initial) m → FitsSignature table d k m (form.Stored n b t a)
    stored_good k n b t a value m f st h =
        let g = initial_good a t value m st (fit.nils d owner so at s (record { code = s.code; is_binding = false; ty = t; argument = a }) ss (ap (λ x. cores.part_at s.code x) f)) h in
        subst (λ (x : Option Ty). FitsSignature table d k m (form.Stored n b x a)) (sym g.1) (FitsSignature.stored g.2)

    state_good : (k : Kind) (n : ℕ) (t : Option Ty) (a : Argument) (value : Option Expr) (m : CoreMember) → s.form ≡ form.State n t a → Starts a value
        → InitialOf t value (inside table (Some d) stance.Initial) m → FitsSignature table d k m (form.State n t a)
    state_good k n t a value m f st h =
        let g = initial_good a t value m st (fit.nils d owner so at s (record { code = s.code; is_binding = false; ty = t; argument = a }) ss (ap (λ x. cores.part_at s.code x) f)) h in
        subst (λ (x : Option Ty). FitsSignature table d k m (form.State n x a)) (sym g.1) (FitsSignature.state g.2)

    pub property_good : (k : Kind) (F : SignatureForm) (binder : Binder) (name : List ℕ) (declared : Option TypeName) (value : Option Expr) (m : CoreMember) → s.form ≡ F
        → StartsAsWritten F (member.Stored binder name declared value) → PropertyOf (inside table (Some d) stance.Initial) F declared value m → FitsSignature table d k m F
    property_good k (form.Stored n b t a) binder name declared value m f st h = stored_good k n b t a value m f st h
    property_good k (form.State n t a) binder name declared value m f st h = state_good k n t a value m f st h
    property_good k (form.Binding n t) binder name declared None m f st h = binding_good k n t m h
    property_good k (form.Environment n) binder name declared None m f st h = key_good k n declared m h
    property_good k (form.Static t) binder name declared (Some e) m f st h = static_good k t e m h
    property_good k _ binder name declared value m f st h = absurd h

  -- ---- statements

  computed_is : (t : Option Ty) (ss : List Stmt) (s : Stance) (m : CoreMember) → ComputedOf t ss (inside table (Some d) s) m
      → (u : Ty) × (t ≡ Some u) × ((c : CodeForm) × IsMain m [] c × GivesValue (core_in table d (itself_of s) m.blocks) [] c u)
  unfolding ComputedOf
  computed_is t ss s m (u, te, (body, b, q)) =
      (u, te, (code.Statements body, main_of m [] (code.Statements body) [] (ap (λ (x : CoreMember). x.code) q) refl, value_of (body_good (Some u) ss m.blocks (inside table (Some d) s) body fit b)))

  static_computed_good : (k : Kind) (t : Option Ty) (ss : List Stmt) (m : CoreMember) → ComputedOf t ss (inside table (Some d) stance.Key) m → FitsSignature table d k m (form.Static t)
  static_computed_good k t ss m h =
      let g = computed_is t ss stance.Key m h in
      subst (λ (x : Option Ty). FitsSignature table d k m (form.Static x)) (sym g.1) (FitsSignature.static_value g.2.1 g.2.2)

  computed_good : (k : Kind) (t : Option Ty) (ss : List Stmt) (m : CoreMember) → ComputedOf t ss (inside table (Some d) (stance_of k)) m → FitsSignature table d k m (form.Computed t)
  computed_good k t ss m h =
      let g = computed_is t ss (stance_of k) m h in
      subst (λ (x : Option Ty). FitsSignature table d k m (form.Computed x)) (sym g.1)
      (FitsSignature.computed_value g.2.1 (subst (λ (x : Itself). GivesValue (core_in table d x m.blocks) [] g.2.0 g.0) (same_itself k) g.2.2))

  function_good : (k : Kind) (signatures : List ParamSignature) (t : Option Ty) (mutating : Bool) (params : List Param) (r : Option ResultName) (ss : List Stmt) (m : CoreMember)
      → FunctionOf signatures t params r ss (inside table (Some d) (function_stance mutating k)) m → FitsSignature table d k m (form.Function signatures t mutating)
  unfolding FunctionOf
  function_good k signatures t mutating params r ss m (hr, (inner, w, (body, b, q))) =
      let at = inside table (Some d) (function_stance mutating k) in
      let p = parameters_good signatures params at inner w in
      let there = record at { locals = inner.locals } in
      let g = body_good t ss m.blocks (entered there) body fit (subst (λ (x : Context). TypedBody t ss (entered x) body) p.same b) in
      FitsSignature.function_body p.written (main_of m (map local_type inner.locals) (code.Statements body) p.types (ap (λ (x : CoreMember). x.code) q) (parameter_types inner.locals p.types p.locals))
      (subst (λ (x : Itself). GivesResult (core_in table d x m.blocks) (map cores.Local.valued p.types) (code.Statements body) t) (same_in_function mutating k)
      (subst (λ (ls : List cores.Local). GivesResult (core_in table d (itself_of (function_stance mutating k)) m.blocks) ls (code.Statements body) t) p.locals g))

  reduce_good : (k : Kind) (params : List Param) (ss : List Stmt) (m : CoreMember) → ReduceOf k params ss (inside table (Some d) stance.Key) m → FitsSignature table d k m form.Reduce
  unfolding ReduceOf
  reduce_good (kind.Key n) params ss m (t, kt, (inner, w, (body, b, q))) =
      let at = inside table (Some d) stance.Key in
      let f = folding_good t params at inner w in
      let there = folding t f.0 f.1.0 at in
      let g = without_value (body_good None ss m.blocks (entered there) body fit (subst (λ (x : Context). TypedBody None ss (entered x) body) f.1.1 b)) in
      found_so (FitsSignature table d (kind.Key n) m form.Reduce) kt (λ (key : PreferenceKey) sk ty_is.
      FitsSignature.reduce refl (HasPreference.key sk ty_is)
      (main_of m (map local_type inner.locals) (code.Statements body) (t ∷ t ∷ []) (ap (λ (x : CoreMember). x.code) q)
      (parameter_types inner.locals (t ∷ t ∷ []) (ap (λ (x : Context). core_locals x.locals) f.1.1))) g.1)
  reduce_good (kind.Data i) params ss m (t, kt, h) = cc
  reduce_good (kind.Enum i cases) params ss m (t, kt, h) = cc
  reduce_good kind.View params ss m (t, kt, h) = cc
  reduce_good kind.App params ss m (t, kt, h) = cc

  -- ---- builders

  -- the code gives views, which are well typed where `self` is this, and each block stands
  abbrev GivesItems : CoreMember → List Ty → Itself → Type 0
  GivesItems m ts s =
      (items : List CoreItem) × IsMain m ts (code.Builder items) × Items (core_in table d s m.blocks) (map cores.Local.valued ts) items × BlocksStand (core_in table d s m.blocks)

  -- the blocks that are added to none are all
  blocks_stand : (s : Itself) (bs : List Code) → Between (core_in table d s bs) [] bs → BlocksStand (core_in table d s bs)
  blocks_stand s bs between b c at = between b (omega arith) (slice_get_within bs b.number c at)

  builder_is : (R : ItemsRule) → ItemsTyped R → (ss : List Stmt) (m : CoreMember) → BuilderOf (R ss) (inside table (Some d) (stance_of owner.kind)) m → GivesItems m [] (itself_of (stance_of owner.kind))
  unfolding BuilderOf
  builder_is R typed ss m (r, b, q) =
      let at = inside table (Some d) (stance_of owner.kind) in
      let g = typed ss at [] r fit view_self b in
      subst (λ (x : CoreMember). GivesItems x [] (itself_of (stance_of owner.kind))) (sym q)
      (r.0, main_of (of_builder [] r.0 r.1) [] (code.Builder r.0) [] refl refl, g.1 r.1 (front_same r.1), blocks_stand (itself_of (stance_of owner.kind)) r.1 (g.2 r.1 (front_same r.1) (λ i t e. cc)))

  builder_function_is : (signatures : List ParamSignature) (params : List Param) (ss : List Stmt) (m : CoreMember) → BuilderFunctionOf signatures params (Built ss) (inside table (Some d) (stance_of owner.kind)) m
      → (ts : List Ty) × (map (λ (p : ParamSignature). p.ty) signatures ≡ map Some ts) × GivesItems m ts (itself_of (stance_of owner.kind))
  unfolding BuilderFunctionOf
  builder_function_is signatures params ss m (inner, w, (r, b, q)) =
      let at = inside table (Some d) (stance_of owner.kind) in
      let p = parameters_good signatures params at inner w in
      let there = record at { locals = inner.locals } in
      let g = builders_typed ss (entered there) [] r fit view_self (subst (λ (x : Context). Built ss (entered x) [] r) p.same b) in (
        p.types,
        p.written,
        subst (λ (x : CoreMember). GivesItems x p.types (itself_of (stance_of owner.kind))) (sym q) (
          r.0,
          main_of (of_builder (map local_type inner.locals) r.0 r.1) (map local_type inner.locals) (code.Builder r.0) p.types refl (parameter_types inner.locals p.types p.locals),
          subst (λ (ls : List cores.Local). Items (core_in table d (itself_of (stance_of owner.kind)) r.1) ls r.0) p.locals (g.1 r.1 (front_same r.1)),
          blocks_stand (itself_of (stance_of owner.kind)) r.1
              (g.2 r.1 (front_same r.1)
              (subst (λ (ls : List cores.Local). PlacesStand (core_in table d (itself_of (stance_of owner.kind)) r.1) ls) (sym p.locals) (all_valued (core_in table d (itself_of (stance_of owner.kind)) r.1) p.types))),
        ),
      )

  builder_in : (k : Kind) (ss : List Stmt) (m : CoreMember) → owner.kind ≡ k → BuilderOf (BuilderIn k ss) (inside table (Some d) (stance_of owner.kind)) m
      → GivesItems m [] (itself_of (stance_of owner.kind))
  builder_in kind.App ss m e h = builder_is Scene scenes_typed ss m h
  builder_in (kind.Data i) ss m e h = builder_is Built builders_typed ss m h
  builder_in (kind.Enum i cases) ss m e h = builder_is Built builders_typed ss m h
  builder_in kind.View ss m e h = builder_is Built builders_typed ss m h
  builder_in (kind.Key k) ss m e h = builder_is Built builders_typed ss m h

  builder_good : (ss : List Stmt) (m : CoreMember) → BuilderOf (BuilderIn owner.kind ss) (inside table (Some d) (stance_of owner.kind)) m → FitsSignature table d owner.kind m form.BuilderProperty
  builder_good ss m h =
      let g = builder_in owner.kind ss m refl h in
      FitsSignature.builder_property g.1 (subst (λ (x : Itself). Items (core_in table d x m.blocks) [] g.0) (same_itself owner.kind) g.2)
      (subst (λ (x : Itself). BlocksStand (core_in table d x m.blocks)) (same_itself owner.kind) g.3)

  builder_function_good : (signatures : List ParamSignature) (params : List Param) (ss : List Stmt) (m : CoreMember)
      → BuilderFunctionOf signatures params (Built ss) (inside table (Some d) (stance_of owner.kind)) m → FitsSignature table d owner.kind m (form.BuilderFunction signatures)
  builder_function_good signatures params ss m h =
      let g = builder_function_is signatures params ss m h in
      FitsSignature.builder_function g.1 g.2.1 (subst (λ (x : Itself). Items (core_in table d x m.blocks) (map cores.Local.valued g.0) g.2.0) (same_itself owner.kind) g.2.2)
      (subst (λ (x : Itself). BlocksStand (core_in table d x m.blocks)) (same_itself owner.kind) g.2.3)

  -- ---- a member

  statements_good : (F : SignatureForm) (ss : List Stmt) (m : CoreMember) → StatementsOf (inside table (Some d)) owner.kind F ss m → FitsSignature table d owner.kind m F
  statements_good (form.Static t) ss m h = static_computed_good owner.kind t ss m h
  statements_good (form.Computed t) ss m h = computed_good owner.kind t ss m h
  statements_good form.BuilderProperty ss m h = builder_good ss m h
  statements_good _ ss m h = absurd h

  call_good : (F : SignatureForm) (params : List Param) (r : Option ResultName) (ss : List Stmt) (m : CoreMember) → CallOf (inside table (Some d)) owner.kind F params r ss m → FitsSignature table d owner.kind m F
  call_good (form.Function signatures t mutating) params r ss m h = function_good owner.kind signatures t mutating params r ss m h
  call_good (form.BuilderFunction signatures) params r ss m h = builder_function_good signatures params ss m h
  call_good form.Reduce params r ss m h = reduce_good owner.kind params ss m h
  call_good _ params r ss m h = absurd h

  pub member_good : (s : Signature) (at : ℕ) → slice_get owner.members at ≡ Some s → (f : MemberForm) (m : CoreMember) → StartsAsWritten s.form f → MemberOf table (Some d) owner.kind s.form f m
      → FitsSignature table d owner.kind m s.form
  member_good s at ss (member.Stored b name declared value) m st h = property_good s at ss owner.kind s.form b name declared value m refl st h
  member_good s at ss (member.Computed name r body) m st h = statements_good s.form body m h
  member_good s at ss (member.Function name params r body) m st h = call_good s.form params r body m h

-- what the rules relate has a form that fits
pub fits_form : (table : Table) (d : Option ℕ) (k : Kind) (f : MemberForm) (m : CoreMember) → MemberOf table d k form.Unfit f m → ⊥
fits_form table d k (member.Stored b name declared value) m h = h
fits_form table d k (member.Computed name r body) m h = h
fits_form table d k (member.Function name params r body) m h = h
