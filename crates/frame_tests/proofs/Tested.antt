-- What is plain and what is asked of places is together what code asks of its frame.
use Rattle.std.proofs.Common.{◌≡◌, ℕ, zero, suc, ◌⊎◌, inl, inr, List, [], ◌∷◌, ◌++◌, map, Option, Some, None, slice_get, refl, sym, ap, subst, ◌∙◌}
use Rattle.identity_path.specs.Cells.{CellMap}
use Rattle.identity_path.specs.declared.input.Input.{Input}
use Rattle.identity_path.specs.declared.input.Input.TheVariants as input
use Rattle.identity_path.specs.declared.place.Place.{Place}
use Rattle.sv_value.specs.declared.hop.Hop.{Hop}
use Rattle.swift_ast.specs.declared.tree.Binder.{Binder}
use Rattle.swift_core.specs.Context.{Local, HasMember}
use Rattle.swift_core.specs.declared.table.Argument.{Argument}
use Rattle.swift_core.specs.declared.table.Declaration.{Declaration}
use Rattle.swift_core.specs.declared.table.EnvironmentKey.{EnvironmentKey}
use Rattle.swift_core.specs.declared.table.Signature.{Signature}
use Rattle.swift_core.specs.declared.table.SignatureForm.{SignatureForm}
use Rattle.swift_core.specs.declared.table.SignatureForm.TheVariants as form
use Rattle.swift_core.specs.declared.table.Table.{Table}
use Rattle.swift_core.specs.declared.ty.Ty.{Ty}
use Rattle.core_means.specs.declared.parts.Frame.{Frame}
use Rattle.value_fits.specs.Cells.{SlotTypes, PlaceFits}
use Rattle.value_fits.specs.Reached.{HopsFit}
use Rattle.world_fits.specs.Frames.{InputHas, HasAt, FrameHas}
use Rattle.world_fits.specs.Runs.{InputsHave}
use Rattle.place_tests.specs.Demands.{Demand, Answered}
use Rattle.place_tests.specs.Nested.{SomeAnswer}
use Rattle.frame_tests.specs.Demands.{members_in, members_of, ask, whole_slot, place_demand, form_demand, local_demands, demands_of, IsValue, IsPlace, FormPlain, MembersPlain, LocalsPlain, KeyPlain, KeysPlain, KeysOf, Plain, Has, SomeTypes, FramesAreTested}

-- ---- one input

-- a place is what is asked of it, and that it is one
placed_asks : (table : Table) (types : SlotTypes) (t : Ty) (x : Input) (d : Demand) → InputHas table types (Local.placed t) x → place_demand t (Some x) ≡ Some d → PlaceFits table types d.place d.ty
placed_asks table types t (input.Value v) d h e = absurd h
placed_asks table types t (input.Place p) d h e = let same : ask p t ≡ d = cc in subst (λ (y : Demand). PlaceFits table types y.place y.ty) same h

placed_is : (table : Table) (types : SlotTypes) (t : Ty) (x : Input) → InputHas table types (Local.placed t) x → IsPlace (Some x)
placed_is table types t (input.Value v) h = absurd h
placed_is table types t (input.Place p) h = tt

placed_has : (table : Table) (types : SlotTypes) (t : Ty) (x : Input) → IsPlace (Some x) → ((d : Demand) → place_demand t (Some x) ≡ Some d → PlaceFits table types d.place d.ty) → InputHas table types (Local.placed t) x
placed_has table types t (input.Value v) h asks = absurd h
placed_has table types t (input.Place p) h asks = asks (ask p t) refl

valued_is : (table : Table) (types : SlotTypes) (t : Ty) (x : Input) → InputHas table types (Local.valued t) x → IsValue table t (Some x)
valued_is table types t (input.Value v) h = h
valued_is table types t (input.Place p) h = absurd h

valued_has : (table : Table) (types : SlotTypes) (t : Ty) (x : Input) → IsValue table t (Some x) → InputHas table types (Local.valued t) x
valued_has table types t (input.Value v) h = h
valued_has table types t (input.Place p) h = absurd h

-- ---- locals

-- all that is asked has its type
abbrev Met : Table → SlotTypes → List (Option Demand) → Type 0
Met table types ds = (k : ℕ) (d : Demand) → slice_get ds k ≡ Some (Some d) → PlaceFits table types d.place d.ty

locals_met : (table : Table) (types : SlotTypes) (ls : List Local) (xs : List Input) → InputsHave table types ls xs → Met table types (local_demands ls xs)
locals_met table types [] xs h k d e = absurd (cc e)
locals_met table types (l ∷ ls) [] h k d e = absurd (cc e)
locals_met table types (Local.valued t ∷ ls) (x ∷ xs) h zero d e = absurd (cc e)
locals_met table types (Local.placed t ∷ ls) (x ∷ xs) h zero d e = let here : place_demand t (Some x) ≡ Some d = cc in placed_asks table types t x d h.0 here
locals_met table types (l ∷ ls) (x ∷ xs) h (suc k) d e = locals_met table types ls xs h.1 k d e

locals_plain : (table : Table) (types : SlotTypes) (ls : List Local) (xs : List Input) → InputsHave table types ls xs → LocalsPlain table ls xs
locals_plain table types [] [] h = LocalsPlain.no_locals
locals_plain table types [] (x ∷ xs) h = absurd h
locals_plain table types (l ∷ ls) [] h = absurd h
locals_plain table types (Local.valued t ∷ ls) (x ∷ xs) h = LocalsPlain.more_locals {l = Local.valued t} (valued_is table types t x h.0) (locals_plain table types ls xs h.1)
locals_plain table types (Local.placed t ∷ ls) (x ∷ xs) h = LocalsPlain.more_locals {l = Local.placed t} (placed_is table types t x h.0) (locals_plain table types ls xs h.1)

locals_have : (table : Table) (types : SlotTypes) (ls : List Local) (xs : List Input) → LocalsPlain table ls xs → Met table types (local_demands ls xs) → InputsHave table types ls xs
locals_have table types [] [] LocalsPlain.no_locals met = tt
locals_have table types [] (x ∷ xs) h met = elim h [ ]
locals_have table types (l ∷ ls) [] h met = elim h [ ]
locals_have table types (Local.valued t ∷ ls) (x ∷ xs) (LocalsPlain.more_locals h hs) met = (valued_has table types t x h, locals_have table types ls xs hs (λ k d e. met (suc k) d e))
locals_have table types (Local.placed t ∷ ls) (x ∷ xs) (LocalsPlain.more_locals h hs) met =
    (placed_has table types t x h (λ d e. met zero d (ap Some e)), locals_have table types ls xs hs (λ k d e. met (suc k) d e))

-- ---- a member of a view

in_declaration : (table : Table) (d k : ℕ) (s : Signature) (o : Option Declaration) → slice_get table.declarations d ≡ o → slice_get (members_in o) k ≡ Some s → HasMember table d s
in_declaration table d k s None there e = absurd (cc e)
in_declaration table d k s (Some declaration) there e = HasMember.member k there e

has_member : (table : Table) (d k : ℕ) (s : Signature) → slice_get (members_of table (Some d)) k ≡ Some s → HasMember table d s
has_member table d k s e = in_declaration table d k s (slice_get table.declarations d) refl e

-- and where it stands
of_member : (table : Table) (d : ℕ) (s : Signature) → HasMember table d s → (k : ℕ) × (slice_get (members_of table (Some d)) k ≡ Some s)
of_member table d s (HasMember.member at there e) = (at, ap (λ (o : Option Declaration). slice_get (members_in o) at) there ∙ e)

bound_asks : (table : Table) (types : SlotTypes) (t : Ty) (xs : List Input) (n : ℕ) (d : Demand) → HasAt (InputHas table types (Local.placed t)) xs n → place_demand t (slice_get xs n) ≡ Some d → PlaceFits table types d.place d.ty
bound_asks table types t xs n d h e = placed_asks table types t h.0 d h.2 (sym (ap (place_demand t) h.1) ∙ e)

slot_asks : (table : Table) (types : SlotTypes) (frame : Frame) (n : ℕ) (t : Ty) (d : Demand) → types frame.path n ≡ Some t → Some (ask (whole_slot frame n) t) ≡ Some d → PlaceFits table types d.place d.ty
slot_asks table types frame n t d typed e =
    let same : ask (whole_slot frame n) t ≡ d = cc in
    subst (λ (y : Demand). PlaceFits table types y.place y.ty) same (PlaceFits.place_fits {place = whole_slot frame n} typed HopsFit.no_hops)

member_met : (table : Table) (types : SlotTypes) (d : ℕ) (frame : Frame) (s : Signature) (f : SignatureForm) (x : Demand) → FrameHas table types d frame → HasMember table d s → s.form ≡ f → form_demand frame f ≡ Some x
    → PlaceFits table types x.place x.ty
member_met table types d frame s (form.State n (Some t) a) x has m is e = slot_asks table types frame n t x (has.slots s n t a m is) e
member_met table types d frame s (form.Binding n (Some t)) x has m is e = bound_asks table types t frame.inputs n x (has.bound s n t m is) e
member_met table types d frame s _ x has m is e = absurd (cc e)

at_value : (table : Table) (types : SlotTypes) (t : Ty) (xs : List Input) (n : ℕ) → HasAt (InputHas table types (Local.valued t)) xs n → IsValue table t (slice_get xs n)
at_value table types t xs n h = subst (IsValue table t) (sym h.1) (valued_is table types t h.0 h.2)

at_place : (table : Table) (types : SlotTypes) (t : Ty) (xs : List Input) (n : ℕ) → HasAt (InputHas table types (Local.placed t)) xs n → IsPlace (slice_get xs n)
at_place table types t xs n h = subst IsPlace (sym h.1) (placed_is table types t h.0 h.2)

member_plain : (table : Table) (types : SlotTypes) (d : ℕ) (frame : Frame) (s : Signature) (f : SignatureForm) → FrameHas table types d frame → HasMember table d s → s.form ≡ f → FormPlain table frame f
member_plain table types d frame s (form.Stored n b (Some t) a) has m is = at_value table types t frame.inputs n (has.stored s n b t a m is)
member_plain table types d frame s (form.Binding n (Some t)) has m is = at_place table types t frame.inputs n (has.bound s n t m is)
member_plain table types d frame s _ has m is = tt

-- ---- from what is plain and what is asked

value_there : (table : Table) (types : SlotTypes) (t : Ty) (xs : List Input) (n : ℕ) (o : Option Input) → slice_get xs n ≡ o → IsValue table t o → HasAt (InputHas table types (Local.valued t)) xs n
value_there table types t xs n None e h = absurd h
value_there table types t xs n (Some x) e h = (x, e, valued_has table types t x h)

place_there : (table : Table) (types : SlotTypes) (t : Ty) (xs : List Input) (n : ℕ) (o : Option Input) → slice_get xs n ≡ o → IsPlace o → ((d : Demand) → place_demand t o ≡ Some d → PlaceFits table types d.place d.ty)
    → HasAt (InputHas table types (Local.placed t)) xs n
place_there table types t xs n None e h asks = absurd h
place_there table types t xs n (Some x) e h asks = (x, e, placed_has table types t x h asks)

same_without_hops : (table : Table) (u t : Ty) (hs : List Hop) → HopsFit table u hs t → hs ≡ [] → u ≡ t
same_without_hops table u t [] HopsFit.no_hops none = refl
same_without_hops table u t (h ∷ hs) fit none = absurd (cc none)

slot_type : (table : Table) (types : SlotTypes) (place : Place) (t : Ty) → PlaceFits table types place t → place.hops ≡ [] → types place.path place.slot ≡ Some t
slot_type table types place t (PlaceFits.place_fits {t = u} e fit) none = e ∙ ap Some (same_without_hops table u t place.hops fit none)

-- what the members of a view ask
abbrev MembersMet : Table → SlotTypes → Option ℕ → Frame → Type 0
MembersMet table types view frame = (k : ℕ) (s : Signature) (x : Demand) → slice_get (members_of table view) k ≡ Some s → form_demand frame s.form ≡ Some x → PlaceFits table types x.place x.ty

-- the frame of a view, one member at a time
stored_has : (table : Table) (types : SlotTypes) (d : ℕ) (frame : Frame) (s : Signature) (n : ℕ) (b : Binder) (t : Ty) (a : Argument) → MembersPlain table frame (members_of table (Some d)) → HasMember table d s
    → s.form ≡ form.Stored n b (Some t) a → HasAt (InputHas table types (Local.valued t)) frame.inputs n
stored_has table types d frame s n b t a plain m is =
    let k = of_member table d s m in
    value_there table types t frame.inputs n (slice_get frame.inputs n) refl (subst (FormPlain table frame) is (plain.each k.0 s k.1))

bound_has : (table : Table) (types : SlotTypes) (d : ℕ) (frame : Frame) (s : Signature) (n : ℕ) (t : Ty) → MembersPlain table frame (members_of table (Some d)) → MembersMet table types (Some d) frame → HasMember table d s
    → s.form ≡ form.Binding n (Some t) → HasAt (InputHas table types (Local.placed t)) frame.inputs n
bound_has table types d frame s n t plain met m is =
    let k = of_member table d s m in
    place_there table types t frame.inputs n (slice_get frame.inputs n) refl (subst (FormPlain table frame) is (plain.each k.0 s k.1)) (λ x e. met k.0 s x k.1 (ap (form_demand frame) is ∙ e))

slot_has : (table : Table) (types : SlotTypes) (d : ℕ) (frame : Frame) (s : Signature) (n : ℕ) (t : Ty) (a : Argument) → MembersMet table types (Some d) frame → HasMember table d s
    → s.form ≡ form.State n (Some t) a → types frame.path n ≡ Some t
slot_has table types d frame s n t a met m is =
    let k = of_member table d s m in
    slot_type table types (whole_slot frame n) t (met k.0 s (ask (whole_slot frame n) t) k.1 (ap (form_demand frame) is)) refl

frame_of : (table : Table) (types : SlotTypes) (d : ℕ) (frame : Frame) → MembersPlain table frame (members_of table (Some d)) → KeysPlain table frame table.environment → MembersMet table types (Some d) frame
    → FrameHas table types d frame
frame_of table types d frame plain all_keys met = record {
  stored = λ s n b t a m is. stored_has table types d frame s n b t a plain m is;
  bound = λ s n t m is. bound_has table types d frame s n t plain met m is;
  slots = λ s n t a m is. slot_has table types d frame s n t a met m is;
  keys = λ k key t there is. (all_keys.each k key there).has t is;
}

-- ---- demands one after the other

-- what is asked by a member or by a local
in_either : {X : Type 0} (xs ys : List X) (k : ℕ) (x : X) → slice_get (xs ++ ys) k ≡ Some x → (slice_get xs k ≡ Some x) ⊎ ((j : ℕ) × (slice_get ys j ≡ Some x))
in_either [] ys k x e = inr (k, e)
in_either (y ∷ xs) ys zero x e = inl e
in_either (y ∷ xs) ys (suc k) x e = in_either xs ys k x e

in_front : {X : Type 0} (xs ys : List X) (k : ℕ) (x : X) → slice_get xs k ≡ Some x → slice_get (xs ++ ys) k ≡ Some x
in_front [] ys k x e = absurd (cc e)
in_front (y ∷ xs) ys zero x e = e
in_front (y ∷ xs) ys (suc k) x e = in_front xs ys k x e

behind : {X : Type 0} (xs ys : List X) (k : ℕ) (x : X) → slice_get ys k ≡ Some x → (j : ℕ) × (slice_get (xs ++ ys) j ≡ Some x)
behind [] ys k x e = (k, e)
behind (y ∷ xs) ys k x e = let r = behind xs ys k x e in (suc r.0, r.1)

asked_by : {X Y : Type 0} (f : X → Y) (xs : List X) (k : ℕ) (y : Y) → slice_get (map f xs) k ≡ Some y → (x : X) × (slice_get xs k ≡ Some x) × (f x ≡ y)
asked_by f [] k y e = absurd (cc e)
asked_by f (x ∷ xs) zero y e = let same : f x ≡ y = cc in (x, refl, same)
asked_by f (x ∷ xs) (suc k) y e = asked_by f xs k y e

asks_by : {X Y : Type 0} (f : X → Y) (xs : List X) (k : ℕ) (x : X) → slice_get xs k ≡ Some x → slice_get (map f xs) k ≡ Some (f x)
asks_by f [] k x e = absurd (cc e)
asks_by f (z ∷ xs) zero x e = let same : z ≡ x = cc in ap (λ w. Some (f w)) same
asks_by f (z ∷ xs) (suc k) x e = asks_by f xs k x e

-- ---- both together

member_asks : (table : Table) (types : SlotTypes) (frame : Frame) (s : Signature) (k : ℕ) (x : Demand) (view : Option ℕ) → ((d : ℕ) → view ≡ Some d → FrameHas table types d frame)
    → slice_get (members_of table view) k ≡ Some s → form_demand frame s.form ≡ Some x → PlaceFits table types x.place x.ty
member_asks table types frame s k x None has there asks = absurd (cc there)
member_asks table types frame s k x (Some d) has there asks = member_met table types d frame s s.form x (has d refl) (has_member table d k s there) refl asks

member_is_plain : (table : Table) (types : SlotTypes) (frame : Frame) (s : Signature) (k : ℕ) (view : Option ℕ) → ((d : ℕ) → view ≡ Some d → FrameHas table types d frame)
    → slice_get (members_of table view) k ≡ Some s → FormPlain table frame s.form
member_is_plain table types frame s k None has there = absurd (cc there)
member_is_plain table types frame s k (Some d) has there = member_plain table types d frame s s.form (has d refl) (has_member table d k s there) refl

key_plain : (table : Table) (types : SlotTypes) (d : ℕ) (frame : Frame) (k : ℕ) (key : EnvironmentKey) → FrameHas table types d frame → slice_get table.environment k ≡ Some key → KeyPlain table frame k key
key_plain table types d frame k key given there = record { has = λ t typed. given.keys k key t there typed }

keys_plain : (table : Table) (types : SlotTypes) (d : ℕ) (frame : Frame) → FrameHas table types d frame → KeysPlain table frame table.environment
keys_plain table types d frame given = record { each = λ k key there. key_plain table types d frame k key given there }

keys_of : (table : Table) (types : SlotTypes) (frame : Frame) (view : Option ℕ) → ((d : ℕ) → view ≡ Some d → FrameHas table types d frame) → KeysOf table view frame
keys_of table types frame None given = tt
keys_of table types frame (Some d) given = keys_plain table types d frame (given d refl)

plain_of : (table : Table) (types : SlotTypes) (cells : CellMap) (view : Option ℕ) (frame : Frame) (ls : List Local) → Has table types cells view frame ls → Plain table view frame ls
plain_of table types cells view frame ls given = record {
  of_members = record { each = λ k s there. member_is_plain table types frame s k view given.frame_has there };
  of_keys = keys_of table types frame view given.frame_has;
  of_locals = locals_plain table types ls frame.locals given.locals_have;
}

demand_met : (table : Table) (types : SlotTypes) (cells : CellMap) (view : Option ℕ) (frame : Frame) (ls : List Local) → Has table types cells view frame ls → Met table types (demands_of frame (members_of table view) ls)
demand_met table types cells view frame ls has k d there =
    by (in_either (map (λ (s : Signature). form_demand frame s.form) (members_of table view)) (local_demands ls frame.locals) k (Some d) there)
  where
    by : (slice_get (map (λ (s : Signature). form_demand frame s.form) (members_of table view)) k ≡ Some (Some d)) ⊎ ((j : ℕ) × (slice_get (local_demands ls frame.locals) j ≡ Some (Some d))) → PlaceFits table types d.place d.ty
    by (inl e) =
        let m = asked_by (λ (s : Signature). form_demand frame s.form) (members_of table view) k (Some d) e in
        member_asks table types frame m.0 k d view has.frame_has m.1 m.2
    by (inr j) = locals_met table types ls frame.locals has.locals_have j.0 d j.1

answered_of : (table : Table) (types : SlotTypes) (cells : CellMap) (view : Option ℕ) (frame : Frame) (ls : List Local) → Has table types cells view frame ls
    → Answered table types cells (demands_of frame (members_of table view) ls)
answered_of table types cells view frame ls has = record { cells_fit = has.cells_fit; each = demand_met table types cells view frame ls has }

members_met : (table : Table) (types : SlotTypes) (view : Option ℕ) (frame : Frame) (ls : List Local) → Met table types (demands_of frame (members_of table view) ls) → MembersMet table types view frame
members_met table types view frame ls met k s x there asks =
    let first = asks_by (λ (r : Signature). form_demand frame r.form) (members_of table view) k s there ∙ ap Some asks in
    met k x (in_front (map (λ (r : Signature). form_demand frame r.form) (members_of table view)) (local_demands ls frame.locals) k (Some x) first)

later_met : (table : Table) (types : SlotTypes) (view : Option ℕ) (frame : Frame) (ls : List Local) → Met table types (demands_of frame (members_of table view) ls) → Met table types (local_demands ls frame.locals)
later_met table types view frame ls met k d e =
    let j = behind (map (λ (r : Signature). form_demand frame r.form) (members_of table view)) (local_demands ls frame.locals) k (Some d) e in
    met j.0 d j.1

frame_by : (table : Table) (types : SlotTypes) (frame : Frame) (d : ℕ) (view : Option ℕ) → view ≡ Some d → MembersPlain table frame (members_of table view) → KeysOf table view frame → MembersMet table types view frame
    → FrameHas table types d frame
frame_by table types frame d None is plain all_keys met = absurd (cc is)
frame_by table types frame d (Some e) is plain all_keys met =
    let same : e ≡ d = cc in
    subst (λ (n : ℕ). FrameHas table types n frame) same (frame_of table types e frame plain all_keys met)

has_by : (table : Table) (types : SlotTypes) (cells : CellMap) (view : Option ℕ) (frame : Frame) (ls : List Local) → Plain table view frame ls → Answered table types cells (demands_of frame (members_of table view) ls)
    → Has table types cells view frame ls
has_by table types cells view frame ls plain answered = record {
  cells_fit = answered.cells_fit;
  frame_has = λ d is. frame_by table types frame d view is plain.of_members plain.of_keys (members_met table types view frame ls answered.each);
  locals_have = locals_have table types ls frame.locals plain.of_locals (later_met table types view frame ls answered.each);
}

to_plain : (table : Table) (cells : CellMap) (view : Option ℕ) (frame : Frame) (ls : List Local) → SomeTypes table cells view frame ls → Plain table view frame ls × SomeAnswer table cells (demands_of frame (members_of table view) ls)
to_plain table cells view frame ls (SomeTypes.some_types types has) = (plain_of table types cells view frame ls has, SomeAnswer.some_answer types (answered_of table types cells view frame ls has))

of_plain : (table : Table) (cells : CellMap) (view : Option ℕ) (frame : Frame) (ls : List Local) → Plain table view frame ls → SomeAnswer table cells (demands_of frame (members_of table view) ls) → SomeTypes table cells view frame ls
of_plain table cells view frame ls plain (SomeAnswer.some_answer types answered) = SomeTypes.some_types types (has_by table types cells view frame ls plain answered)

pub frames_are_tested : FramesAreTested
frames_are_tested table cells view frame ls = (λ some. to_plain table cells view frame ls some, λ both. of_plain table cells view frame ls both.0 both.1)
