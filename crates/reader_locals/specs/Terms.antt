-- Terms: a form asks for captured locals and else does the same, where the forms inside it do.
use Rattle.std.specs.Prelude.{◌≡◌, ℕ, zero, suc, ◌≤◌, true, false, List, [], ◌∷◌, ◌++◌, map, Option, Some, None, Ok, Err, slice_get, ⊤}
use Rattle.std.specs.List.{flat_map}
use Rattle.std.proofs.Common.{refl, sym, subst}
use Rattle.identity_path.specs.declared.input.Input.{Input}
use Rattle.identity_path.specs.declared.input.Input.TheVariants as input
use Rattle.sv_value.specs.declared.hop.Hop.{Hop}
use Rattle.sv_value.specs.declared.hop.Hop.TheVariants as hop
use Rattle.sv_value.specs.declared.value.Value.{Value}
use Rattle.sv_value.specs.declared.value.Value.TheVariants as whole
use Rattle.swift_core.specs.Typing.{CoreForm, PieceForm, FillingForm, ReceiverForm, HopForm, ChangeForm}
use Rattle.swift_core.specs.declared.code.Code.{Code}
use Rattle.swift_core.specs.declared.stmt.Condition.{Condition}
use Rattle.swift_core.specs.declared.stmt.Condition.TheVariants as condition
use Rattle.swift_core.specs.declared.stmt.Over.{Over}
use Rattle.swift_core.specs.declared.stmt.Over.TheVariants as over
use Rattle.swift_core.specs.declared.term.Binary.{Binary}
use Rattle.swift_core.specs.declared.term.Binary.TheVariants as binary
use Rattle.swift_core.specs.declared.term.Change.{Change}
use Rattle.swift_core.specs.declared.term.ChangeCall.{ChangeCall, out-ChangeCall}
use Rattle.swift_core.specs.declared.term.ChangeCall.TheOpen.{Core-F, ChangeCall-F, CoreHop-F, Filling-F, Piece-F, Receiver-F}
use Rattle.swift_core.specs.declared.term.Core.{Core, out-Core, size-Core}
use Rattle.swift_core.specs.declared.term.CoreHop.{CoreHop, out-CoreHop}
use Rattle.swift_core.specs.declared.term.Filling.{Filling, out-Filling}
use Rattle.swift_core.specs.declared.term.Invocation.{Invocation}
use Rattle.swift_core.specs.declared.term.Lookup.{Lookup}
use Rattle.swift_core.specs.declared.term.Lookup.TheVariants as lookup
use Rattle.swift_core.specs.declared.term.Piece.{Piece, out-Piece}
use Rattle.swift_core.specs.declared.term.Receiver.{out-Receiver}
use Rattle.swift_core.specs.declared.term.Root.{Root}
use Rattle.swift_core.specs.declared.term.Root.TheVariants as root
use Rattle.swift_core.specs.declared.term.Unary.{Unary}
use Rattle.value_calls.specs.Calls as called_on
use Rattle.value_calls.specs.Made.{made}
use Rattle.value_calls.specs.declared.calls.Bounds.{Bounds}
use Rattle.core_means.specs.Asks.{World, Live, and_then, ◌>>=◌, ◌>>◌, give, given, found, answered, choose}
use Rattle.core_means.specs.Means.{Inside, held as all_held, truth, inside, parts, index_of, of_one, of_two, below, up_to, places, changed_to, push, within, on_copy, code_of, values_from, list_of, piece_at, piece_of, pieces_from, text_of, one_operand, tested, both, either, opened, or_else, coalesced, unless_nil, coalesced_optional, operands, two_operands, choice, run_code, entered, initial, receiver_at, receiver_of, invoked, argument_at, argument, arguments_from, filled_at, filled, fields_from, construction, hop_at, hop_of, hops_from, mutated, arguments_at, altered_at, altered_by, altered, change_spot, change_arguments, changed, invoked_value, changed_value, eval_at, eval_form, promoting, promoted_to, value_form, bound, bound_to, condition_of, conditions, range_by, indices, span_form}
use Rattle.core_means.specs.Places.{shown, looked, value_of, plain, through, local_from, local_at, plain_of, through_of, plain_local, through_local, field_in, look_up, reached, spot_of, held_value, part_in, read_spot, renewed, set_local, set_itself, put_in, put, write_local, write_self, write_spot}
use Rattle.core_means.specs.Sources.{Found, seen}
use Rattle.core_means.specs.declared.origin.Origin.{Origin}
use Rattle.core_means.specs.declared.origin.Origin.TheVariants as origin
use Rattle.core_means.specs.declared.parts.Changed.{Changed}
use Rattle.core_means.specs.declared.parts.Local.{Local as Held}
use Rattle.core_means.specs.declared.parts.Local.TheVariants as held
use Rattle.core_means.specs.declared.parts.Numbers.{Numbers}
use Rattle.core_means.specs.declared.parts.Spot.{Spot}
use Rattle.core_means.specs.declared.parts.Spot.TheVariants as spot
use Rattle.world_fits.specs.Lists.{each_front, each_back, each_join}
use Rattle.swift_core.specs.Alters.{Alters, all_of, root_alters, core_alters, filling_alters, condition_alters, over_alters}
use Rattle.reader_locals.specs.AlterLayers.{From, Beyond, piece_alters, hop_alters, core_layer, piece_layer, filling_layer, receiver_layer, hop_layer, call_layer, core_is, piece_is, filling_is, hop_is, invocation_is, change_is}
use Rattle.reader_locals.specs.Filled.{fill, filled_local, filled_option, held_input, known_at, filled_get, Settled, Agree, agree_then, Calm, CalmWith, with_then, calm_then, calm_give, calm_given, calm_answered, calm_found, calm_choose, calm_push, same_there, settled_set, filled_set, ends_with, own_locals, settled_back, calm_within}

-- The terms inside, of which those alter no local before this place.
pub record Calms (inputs : List Input) (limit : ℕ) (i : Inside) : Type 0 where
  pub eval : (e : Core) → Beyond limit (core_alters e) → Calm inputs limit (i.eval e)
  pub span : (o : Over) → Beyond limit (over_alters o) → Calm inputs limit (i.span o)

module _ (inputs : List Input) (limit : ℕ) where
  -- ---- look-ups

  pub value_calm : (s : Origin) → Calm inputs limit (value_of s)
  unfolding value_of
  value_calm s w settled = go w.live
    where
      shows : (o : Found) → Agree inputs limit Input (λ x. ⊤) (shown o w) (shown o (fill inputs w))
      shows None = Agree.fails
      shows (Some (Err missing)) = Agree.traps
      shows (Some (Ok v)) = Agree.ends tt settled

      go : (o : Option Live) → Agree inputs limit Input (λ x. ⊤) (looked s o w) (looked s o (fill inputs w))
      go None = Agree.asks (λ v. Agree.ends tt settled)
      go (Some live) = shows (seen live.frame live.cells s)

  -- what a captured local holds is known
  known_calm : (s : Origin) (w : World) → Settled inputs limit w → Agree inputs limit Input (λ x. ⊤) (value_of s w) (local_from (Some (held_input inputs (known_at inputs s))) (fill inputs w))
  unfolding value_of
  known_calm s w settled = subst (λ (o : Option Live). Agree inputs limit Input (λ x. ⊤) (looked s o w) (local_from (Some (held_input inputs (known_at inputs s))) (fill inputs w))) (sym settled.quiet) (go (known_at inputs s) refl)
    where
      go : (o : Option Input) → known_at inputs s ≡ o → Agree inputs limit Input (λ x. ⊤) (looked s None w) (local_from (Some (held_input inputs o)) (fill inputs w))
      go None e = Agree.fails
      go (Some v) e = Agree.knows v e (Agree.ends tt settled)

  pub local_calm : (i : ℕ) → Calm inputs limit (local_at i)
  unfolding local_at
  local_calm i w settled =
      subst (λ (o : Option Held). Agree inputs limit Input (λ x. ⊤) (local_from (slice_get w.locals i) w) (local_from o (fill inputs w))) (sym (filled_get inputs w.locals i)) (go (slice_get w.locals i))
    where
      go : (o : Option Held) → Agree inputs limit Input (λ x. ⊤) (local_from o w) (local_from (filled_option inputs o) (fill inputs w))
      go None = Agree.fails
      go (Some (held.Holds v)) = Agree.ends tt settled
      go (Some (held.Captured n)) = known_calm (origin.Captured n) w settled
      go (Some held.Preference) = known_calm origin.Preference w settled
      go (Some held.Absent) = Agree.fails

  plain_calm : (x : Input) → Calm inputs limit (plain x)
  plain_calm (input.Value v) w settled = Agree.ends tt settled
  plain_calm (input.Place p) w settled = Agree.fails

  through_calm : (x : Input) → Calm inputs limit (through x)
  through_calm (input.Value v) w settled = Agree.fails
  through_calm (input.Place p) w settled = calm_then inputs limit (value_of (origin.Place p)) plain (value_calm (origin.Place p)) plain_calm w settled

  pub plain_of_calm : (s : Origin) → Calm inputs limit (plain_of s)
  unfolding plain_of
  plain_of_calm s = calm_then inputs limit (value_of s) plain (value_calm s) plain_calm

  through_of_calm : (s : Origin) → Calm inputs limit (through_of s)
  unfolding through_of
  through_of_calm s = calm_then inputs limit (value_of s) through (value_calm s) through_calm

  pub plain_local_calm : (i : ℕ) → Calm inputs limit (plain_local i)
  unfolding plain_local
  plain_local_calm i = calm_then inputs limit (local_at i) plain (local_calm i) plain_calm

  through_local_calm : (i : ℕ) → Calm inputs limit (through_local i)
  unfolding through_local
  through_local_calm i = calm_then inputs limit (local_at i) through (local_calm i) through_calm

  look_calm : (l : Lookup) → Calm inputs limit (look_up l)
  unfolding look_up
  look_calm (lookup.Local i) = plain_local_calm i
  look_calm (lookup.BoundLocal i) = through_local_calm i
  look_calm (lookup.Input i) = plain_of_calm (origin.Input i)
  look_calm (lookup.BoundInput i) = through_of_calm (origin.Input i)
  look_calm (lookup.Slot rule) = plain_of_calm (origin.Slot rule)
  look_calm (lookup.Environment key) = plain_of_calm (origin.Environment key)
  look_calm lookup.Itself = λ w settled. calm_given inputs limit w.itself w settled
  look_calm (lookup.OwnField i) = λ w settled. calm_given inputs limit (field_in i w.itself) w settled

  -- ---- places that are read and written

  abbrev pub SpotBeyond : Spot → Type 0
  SpotBeyond (spot.Local i hops) = limit ≤ i
  SpotBeyond (spot.Itself hops) = ⊤
  SpotBeyond (spot.Cell place) = ⊤

  reached_calm : (hops : List Hop) (x : Input) → CalmWith inputs limit SpotBeyond (reached hops x)
  reached_calm hops (input.Value v) w settled = Agree.fails
  reached_calm hops (input.Place p) w settled = Agree.ends tt settled

  pub spot_calm : (r : Root) (hops : List Hop) → Beyond limit (root_alters r) → CalmWith inputs limit SpotBeyond (spot_of r hops)
  unfolding spot_of
  spot_calm (root.Local i) hops h w settled = Agree.ends h.0 settled
  spot_calm (root.BoundLocal i) hops h w settled = agree_then inputs SpotBeyond limit limit (local_at i w) (local_at i (fill inputs w)) (reached hops) (reached hops) (local_calm i w settled) (λ x u p s. reached_calm hops x u s)
  spot_calm (root.BoundInput i) hops h w settled =
      agree_then inputs SpotBeyond limit limit (value_of (origin.Input i) w) (value_of (origin.Input i) (fill inputs w)) (reached hops) (reached hops) (value_calm (origin.Input i) w settled) (λ x u p s. reached_calm hops x u s)
  spot_calm (root.Slot rule) hops h w settled = Agree.ends tt settled
  spot_calm root.Itself hops h w settled = Agree.ends tt settled

  pub read_calm : (s : Spot) → SpotBeyond s → Calm inputs limit (read_spot s)
  unfolding read_spot
  read_calm (spot.Local i hops) h w settled =
      subst (λ (o : Option Held). Agree inputs limit Value (λ x. ⊤) (answered (part_in hops (held_value (slice_get w.locals i))) w) (answered (part_in hops (held_value o)) (fill inputs w))) (sym (same_there inputs limit w i settled h))
      (calm_answered inputs limit (part_in hops (held_value (slice_get w.locals i))) w settled)
  read_calm (spot.Itself hops) h w settled = calm_answered inputs limit (part_in hops w.itself) w settled
  read_calm (spot.Cell place) h w settled = plain_of_calm (origin.Place place) w settled

  set_calm : (i : ℕ) → limit ≤ i → (v : Value) → Calm inputs limit (set_local i v)
  set_calm i there v w settled = ends_with inputs limit (λ x. ⊤) tt _ _ tt (settled_set inputs limit w i (input.Value v) there settled) (filled_set inputs limit w i (input.Value v))

  set_itself_calm : (v : Value) → Calm inputs limit (set_itself v)
  set_itself_calm v w settled = Agree.ends tt (record { quiet = settled.quiet; stands = settled.stands; long = settled.long; veiled = settled.veiled })

  -- A body writes no cell.
  pub write_calm : (s : Spot) (v : Value) → SpotBeyond s → Calm inputs limit (write_spot s v)
  unfolding write_spot write_local write_self put
  write_calm (spot.Local i hops) v h w settled =
      subst (λ (o : Option Held). Agree inputs limit (Unit {0}) (λ x. ⊤) (and_then (answered (renewed hops v (held_value (slice_get w.locals i))) w) (set_local i)) (and_then (answered (renewed hops v (held_value o)) (fill inputs w)) (set_local i)))
      (sym (same_there inputs limit w i settled h))
      (calm_then inputs limit (answered (renewed hops v (held_value (slice_get w.locals i)))) (set_local i) (calm_answered inputs limit (renewed hops v (held_value (slice_get w.locals i)))) (set_calm i h) w settled)
  write_calm (spot.Itself hops) v h w settled = calm_then inputs limit (answered (renewed hops v w.itself)) set_itself (calm_answered inputs limit (renewed hops v w.itself)) set_itself_calm w settled
  write_calm (spot.Cell p) v h w settled = subst (λ (o : Option Live). Agree inputs limit (Unit {0}) (λ x. ⊤) (put_in p v o w) (put_in p v o (fill inputs w))) (sym settled.quiet) Agree.fails

  -- the arguments of a call alter what the call does
  arguments_beyond : (c : ChangeForm) → Beyond limit (call_layer c) → Beyond limit (all_of (map core_alters (arguments_at c)))
  arguments_beyond ChangeCall-F.Toggle h = h
  arguments_beyond (ChangeCall-F.Append x) h = each_join (From limit) (core_alters x) [] h tt
  arguments_beyond (ChangeCall-F.AppendAll x) h = each_join (From limit) (core_alters x) [] h tt
  arguments_beyond (ChangeCall-F.Insert x i) h = each_join (From limit) (core_alters x) (core_alters i ++ []) (each_front (From limit) (core_alters x) (core_alters i) h) (each_join (From limit) (core_alters i) [] (each_back (From limit) (core_alters x) (core_alters i) h) tt)
  arguments_beyond (ChangeCall-F.Remove i) h = each_join (From limit) (core_alters i) [] h tt
  arguments_beyond ChangeCall-F.RemoveFirst h = h
  arguments_beyond ChangeCall-F.RemoveLast h = h
  arguments_beyond ChangeCall-F.RemoveAll h = h
  arguments_beyond (ChangeCall-F.SwapAt i j) h = each_join (From limit) (core_alters i) (core_alters j ++ []) (each_front (From limit) (core_alters i) (core_alters j) h) (each_join (From limit) (core_alters j) [] (each_back (From limit) (core_alters i) (core_alters j) h) tt)
  arguments_beyond (ChangeCall-F.Mutate id arguments) h = h

module _ (inputs : List Input) (limit : ℕ) (i : Inside) (c : Calms inputs limit i) (run : (code : Code) → Calm inputs zero (run_code i code)) where
  front : (a b : Alters) → Beyond limit (a ++ b) → Beyond limit a
  front a b h = each_front (From limit) a b h

  back : (a b : Alters) → Beyond limit (a ++ b) → Beyond limit b
  back a b h = each_back (From limit) a b h

  -- ---- lists and strings

  pub values_calm : (es : List Core) (so_far : List Value) → Beyond limit (all_of (map core_alters es)) → Calm inputs limit (values_from i so_far es)
  unfolding values_from
  values_calm [] so_far h = calm_give inputs limit so_far
  values_calm (e ∷ es) so_far h =
      calm_then inputs limit (i.eval e) (λ v. values_from i (so_far ++ v ∷ []) es) (c.eval e (front (core_alters e) (all_of (map core_alters es)) h))
      (λ v. values_calm es (so_far ++ v ∷ []) (back (core_alters e) (all_of (map core_alters es)) h))

  list_calm : (es : List Core) → Beyond limit (all_of (map core_alters es)) → Calm inputs limit (list_of i es)
  unfolding list_of
  list_calm es h = calm_then inputs limit (values_from i [] es) (λ vs. answered (made (whole.List vs))) (values_calm es [] h) (λ vs. calm_answered inputs limit (made (whole.List vs)))

  piece_calm : (layer : PieceForm) → Beyond limit (piece_layer layer) → Calm inputs limit (piece_at i layer)
  piece_calm (Piece-F.«Piece::Text» w) h = calm_give inputs limit (whole.Str w)
  piece_calm (Piece-F.Hole e) h = c.eval e h

  pieces_calm : (ps : List Piece) (so_far : List Value) → Beyond limit (all_of (map piece_alters ps)) → Calm inputs limit (pieces_from i so_far ps)
  unfolding pieces_from piece_of
  pieces_calm [] so_far h = calm_give inputs limit so_far
  pieces_calm (p ∷ ps) so_far h =
      calm_then inputs limit (piece_at i (out-Piece p)) (λ v. pieces_from i (so_far ++ v ∷ []) ps) (piece_calm (out-Piece p) (subst (Beyond limit) (piece_is p) (front (piece_alters p) (all_of (map piece_alters ps)) h)))
      (λ v. pieces_calm ps (so_far ++ v ∷ []) (back (piece_alters p) (all_of (map piece_alters ps)) h))

  text_calm : (ps : List Piece) → Beyond limit (all_of (map piece_alters ps)) → Calm inputs limit (text_of i ps)
  unfolding text_of
  text_calm ps h = calm_then inputs limit (pieces_from i [] ps) (λ vs. answered (called_on.interpolated vs)) (pieces_calm ps [] h) (λ vs. calm_answered inputs limit (called_on.interpolated vs))

  -- ---- operators

  operand_calm : (o : Unary) (e : Core) → Beyond limit (core_alters e) → Calm inputs limit (one_operand i o e)
  unfolding one_operand
  operand_calm o e h = calm_then inputs limit (i.eval e) (λ v. answered (of_one o v)) (c.eval e h) (λ v. calm_answered inputs limit (of_one o v))

  pub tested_calm : (e : Core) → Beyond limit (core_alters e) → Calm inputs limit (tested i e)
  unfolding tested
  tested_calm e h = calm_then inputs limit (i.eval e) (λ v. given (truth v)) (c.eval e h) (λ v. calm_given inputs limit (truth v))

  both_calm : (a b : Core) → Beyond limit (core_alters a) → Beyond limit (core_alters b) → Calm inputs limit (both i a b)
  unfolding both
  both_calm a b h k =
      calm_then inputs limit (tested i a) (λ t. choose t (tested i b >>= λ u. give (whole.Bool u)) (give (whole.Bool false))) (tested_calm a h)
      (λ t. calm_choose inputs limit t (tested i b >>= λ u. give (whole.Bool u)) (give (whole.Bool false))
      (calm_then inputs limit (tested i b) (λ u. give (whole.Bool u)) (tested_calm b k) (λ u. calm_give inputs limit (whole.Bool u))) (calm_give inputs limit (whole.Bool false)))

  either_calm : (a b : Core) → Beyond limit (core_alters a) → Beyond limit (core_alters b) → Calm inputs limit (either i a b)
  unfolding either
  either_calm a b h k =
      calm_then inputs limit (tested i a) (λ t. choose t (give (whole.Bool true)) (tested i b >>= λ u. give (whole.Bool u))) (tested_calm a h)
      (λ t. calm_choose inputs limit t (give (whole.Bool true)) (tested i b >>= λ u. give (whole.Bool u)) (calm_give inputs limit (whole.Bool true))
      (calm_then inputs limit (tested i b) (λ u. give (whole.Bool u)) (tested_calm b k) (λ u. calm_give inputs limit (whole.Bool u))))

  pub opened_calm : (e : Core) → Beyond limit (core_alters e) → Calm inputs limit (opened i e)
  unfolding opened
  opened_calm e h = calm_then inputs limit (i.eval e) (λ v. given (inside v)) (c.eval e h) (λ v. calm_given inputs limit (inside v))

  or_else_calm : (o : Option Value) (b : Core) → Beyond limit (core_alters b) → Calm inputs limit (or_else i o b)
  or_else_calm None b h = c.eval b h
  or_else_calm (Some v) b h = calm_give inputs limit v

  unless_nil_calm : (o : Option Value) (b : Core) → Beyond limit (core_alters b) → Calm inputs limit (unless_nil i o b)
  unless_nil_calm None b h = c.eval b h
  unless_nil_calm (Some v) b h = calm_give inputs limit (whole.Opt (Some v))

  coalesced_calm : (a b : Core) → Beyond limit (core_alters a) → Beyond limit (core_alters b) → Calm inputs limit (coalesced i a b)
  unfolding coalesced
  coalesced_calm a b h k = calm_then inputs limit (opened i a) (λ o. or_else i o b) (opened_calm a h) (λ o. or_else_calm o b k)

  coalesced_optional_calm : (a b : Core) → Beyond limit (core_alters a) → Beyond limit (core_alters b) → Calm inputs limit (coalesced_optional i a b)
  unfolding coalesced_optional
  coalesced_optional_calm a b h k = calm_then inputs limit (opened i a) (λ o. unless_nil i o b) (opened_calm a h) (λ o. unless_nil_calm o b k)

  operands_calm : (o : Binary) (a b : Core) → Beyond limit (core_alters a) → Beyond limit (core_alters b) → Calm inputs limit (operands i o a b)
  unfolding operands
  operands_calm o a b h k =
      calm_then inputs limit (i.eval a) (λ x. i.eval b >>= λ y. answered (of_two o x y)) (c.eval a h)
      (λ x. calm_then inputs limit (i.eval b) (λ y. answered (of_two o x y)) (c.eval b k) (λ y. calm_answered inputs limit (of_two o x y)))

  two_calm : (o : Binary) (a b : Core) → Beyond limit (core_alters a) → Beyond limit (core_alters b) → Calm inputs limit (two_operands i o a b)
  unfolding two_operands
  two_calm (binary.Operate o) a b h k = operands_calm (binary.Operate o) a b h k
  two_calm binary.And a b h k = both_calm a b h k
  two_calm binary.Or a b h k = either_calm a b h k
  two_calm binary.Coalesce a b h k = coalesced_calm a b h k
  two_calm binary.CoalesceOptional a b h k = coalesced_optional_calm a b h k
  two_calm binary.Element a b h k = operands_calm binary.Element a b h k
  two_calm binary.Contains a b h k = operands_calm binary.Contains a b h k
  two_calm binary.FirstIndex a b h k = operands_calm binary.FirstIndex a b h k
  two_calm binary.Repeat a b h k = operands_calm binary.Repeat a b h k

  choice_calm : (t a b : Core) → Beyond limit (core_alters t) → Beyond limit (core_alters a) → Beyond limit (core_alters b) → Calm inputs limit (choice i t a b)
  unfolding choice
  choice_calm t a b h k l = calm_then inputs limit (tested i t) (λ x. choose x (i.eval a) (i.eval b)) (tested_calm t h) (λ x. calm_choose inputs limit x (i.eval a) (i.eval b) (c.eval a k) (c.eval b l))

  -- ---- calls

  pub entered_calm : (id : ℕ) (vs : List Value) (itself : Option Value) → Calm inputs limit (entered i id (all_held vs) itself)
  unfolding entered
  entered_calm id vs itself = calm_found inputs limit (code_of i.program id) (λ code. within (all_held vs) itself (run_code i code)) (λ code. calm_within inputs limit vs itself (run_code i code) (run code))

  pub initial_calm : (id : ℕ) → Calm inputs limit (initial i id)
  unfolding initial
  initial_calm id = calm_then inputs limit (entered i id [] None) (λ o. given o) (entered_calm id [] None) (λ o. calm_given inputs limit o)

  receiver_calm : (layer : ReceiverForm) → Beyond limit (receiver_layer layer) → Calm inputs limit (receiver_at i layer)
  receiver_calm Receiver-F.Same h = λ w settled. Agree.ends tt settled
  receiver_calm (Receiver-F.Value e) h = calm_then inputs limit (i.eval e) (λ v. give (Some v)) (c.eval e h) (λ v. calm_give inputs limit (Some v))

  pub invoked_calm : (x : Invocation) → Beyond limit (receiver_layer (out-Receiver x.receiver) ++ all_of (map core_alters x.arguments)) → Calm inputs limit (invoked i x)
  unfolding invoked receiver_of
  invoked_calm x h =
      calm_then inputs limit (receiver_at i (out-Receiver x.receiver)) (λ itself. values_from i [] x.arguments >>= λ vs. entered i x.code.number (all_held vs) itself)
      (receiver_calm (out-Receiver x.receiver) (front (receiver_layer (out-Receiver x.receiver)) (all_of (map core_alters x.arguments)) h))
      (λ itself. calm_then inputs limit (values_from i [] x.arguments) (λ vs. entered i x.code.number (all_held vs) itself)
      (values_calm x.arguments [] (back (receiver_layer (out-Receiver x.receiver)) (all_of (map core_alters x.arguments)) h)) (λ vs. entered_calm x.code.number vs itself))

  -- ---- initialisers

  argument_calm : (layer : FillingForm) → Beyond limit (filling_layer layer) → Calm inputs limit (argument_at i layer)
  argument_calm (Filling-F.Given e) h = calm_then inputs limit (i.eval e) (λ v. give (Some v)) (c.eval e h) (λ v. calm_give inputs limit (Some v))
  argument_calm (Filling-F.Place t) h = λ w settled. Agree.fails
  argument_calm (Filling-F.Initial id) h = calm_give inputs limit None
  argument_calm Filling-F.Nil h = calm_give inputs limit None

  arguments_calm : (fs : List Filling) (so_far : List (Option Value)) → Beyond limit (all_of (map filling_alters fs)) → Calm inputs limit (arguments_from i so_far fs)
  unfolding arguments_from argument
  arguments_calm [] so_far h = calm_give inputs limit so_far
  arguments_calm (f ∷ fs) so_far h =
      calm_then inputs limit (argument_at i (out-Filling f)) (λ o. arguments_from i (so_far ++ o ∷ []) fs)
      (argument_calm (out-Filling f) (subst (Beyond limit) (filling_is f) (front (filling_alters f) (all_of (map filling_alters fs)) h)))
      (λ o. arguments_calm fs (so_far ++ o ∷ []) (back (filling_alters f) (all_of (map filling_alters fs)) h))

  filled_calm : (layer : FillingForm) (o : Option Value) → Calm inputs limit (filled_at i layer o)
  filled_calm (Filling-F.Given e) None = λ w settled. Agree.fails
  filled_calm (Filling-F.Given e) (Some v) = calm_give inputs limit v
  filled_calm (Filling-F.Place t) None = λ w settled. Agree.fails
  filled_calm (Filling-F.Place t) (Some v) = calm_give inputs limit v
  filled_calm (Filling-F.Initial id) None = initial_calm id.number
  filled_calm (Filling-F.Initial id) (Some v) = calm_give inputs limit v
  filled_calm Filling-F.Nil None = calm_give inputs limit (whole.Opt None)
  filled_calm Filling-F.Nil (Some v) = calm_give inputs limit v

  fields_calm : (fs : List Filling) (os : List (Option Value)) (so_far : List Value) → Calm inputs limit (fields_from i so_far fs os)
  unfolding fields_from filled
  fields_calm [] [] so_far = calm_give inputs limit so_far
  fields_calm [] (o ∷ os) so_far = λ w settled. Agree.fails
  fields_calm (f ∷ fs) [] so_far = λ w settled. Agree.fails
  fields_calm (f ∷ fs) (o ∷ os) so_far = calm_then inputs limit (filled_at i (out-Filling f) o) (λ v. fields_from i (so_far ++ v ∷ []) fs os) (filled_calm (out-Filling f) o) (λ v. fields_calm fs os (so_far ++ v ∷ []))

  construction_calm : (d : ℕ) (fs : List Filling) → Beyond limit (all_of (map filling_alters fs)) → Calm inputs limit (construction i d fs)
  unfolding construction
  construction_calm d fs h =
      calm_then inputs limit (arguments_from i [] fs) (λ os. fields_from i [] fs os >>= λ vs. answered (made (whole.Struct d vs))) (arguments_calm fs [] h)
      (λ os. calm_then inputs limit (fields_from i [] fs os) (λ vs. answered (made (whole.Struct d vs))) (fields_calm fs os []) (λ vs. calm_answered inputs limit (made (whole.Struct d vs))))

  -- ---- targets and changes

  hop_calm : (layer : HopForm) → Beyond limit (hop_layer layer) → Calm inputs limit (hop_at i layer)
  hop_calm (CoreHop-F.Field n) h = calm_give inputs limit (hop.Field n)
  hop_calm (CoreHop-F.Index e) h = calm_then inputs limit (i.eval e) (λ v. given (index_of v)) (c.eval e h) (λ v. calm_given inputs limit (index_of v))

  pub hop_of_calm : (x : CoreHop) → Beyond limit (hop_alters x) → Calm inputs limit (hop_of i x)
  unfolding hop_of
  hop_of_calm x h = hop_calm (out-CoreHop x) (subst (Beyond limit) (hop_is x) h)

  pub hops_calm : (hs : List CoreHop) (so_far : List Hop) → Beyond limit (all_of (map hop_alters hs)) → Calm inputs limit (hops_from i so_far hs)
  unfolding hops_from
  hops_calm [] so_far h = calm_give inputs limit so_far
  hops_calm (x ∷ hs) so_far h =
      calm_then inputs limit (hop_of i x) (λ y. hops_from i (so_far ++ y ∷ []) hs) (hop_of_calm x (front (hop_alters x) (all_of (map hop_alters hs)) h))
      (λ y. hops_calm hs (so_far ++ y ∷ []) (back (hop_alters x) (all_of (map hop_alters hs)) h))

  on_copy_calm : (vs : List Value) (v : Value) (code : Code) → Calm inputs limit (on_copy (all_held vs) v (run_code i code))
  unfolding on_copy
  on_copy_calm vs v code w settled =
      own_locals inputs (λ x. ⊤) limit vs (Some v) (run_code i code) (λ answer u. given (changed_to u.itself answer) (record u { locals = w.locals; itself = w.itself }))
      (λ answer u. given (changed_to u.itself answer) (record u { locals = map (filled_local inputs) w.locals; itself = w.itself })) w settled (run code)
      (λ answer u p quiet. after (changed_to u.itself answer) u quiet)
    where
      after : (o : Option Changed) (u : World) → u.live ≡ None
          → Agree inputs limit Changed (λ x. ⊤) (given o (record u { locals = w.locals; itself = w.itself })) (given o (record u { locals = map (filled_local inputs) w.locals; itself = w.itself }))
      after None u quiet = Agree.fails
      after (Some x) u quiet = Agree.ends tt (settled_back inputs limit w u w.itself settled quiet)

  mutated_calm : (id : ℕ) (vs : List Value) (v : Value) → Calm inputs limit (mutated i id vs v)
  unfolding mutated
  mutated_calm id vs v = calm_found inputs limit (code_of i.program id) (λ code. on_copy (all_held vs) v (run_code i code)) (λ code. on_copy_calm vs v code)

  altered_calm : (layer : ChangeForm) (vs : List Value) (v : Value) → Calm inputs limit (altered_by i layer vs v)
  altered_calm ChangeCall-F.Toggle vs v = calm_answered inputs limit (altered_at ChangeCall-F.Toggle vs v)
  altered_calm (ChangeCall-F.Append x) vs v = calm_answered inputs limit (altered_at (ChangeCall-F.Append x) vs v)
  altered_calm (ChangeCall-F.AppendAll x) vs v = calm_answered inputs limit (altered_at (ChangeCall-F.AppendAll x) vs v)
  altered_calm (ChangeCall-F.Insert x n) vs v = calm_answered inputs limit (altered_at (ChangeCall-F.Insert x n) vs v)
  altered_calm (ChangeCall-F.Remove n) vs v = calm_answered inputs limit (altered_at (ChangeCall-F.Remove n) vs v)
  altered_calm ChangeCall-F.RemoveFirst vs v = calm_answered inputs limit (altered_at ChangeCall-F.RemoveFirst vs v)
  altered_calm ChangeCall-F.RemoveLast vs v = calm_answered inputs limit (altered_at ChangeCall-F.RemoveLast vs v)
  altered_calm ChangeCall-F.RemoveAll vs v = calm_answered inputs limit (altered_at ChangeCall-F.RemoveAll vs v)
  altered_calm (ChangeCall-F.SwapAt n m) vs v = calm_answered inputs limit (altered_at (ChangeCall-F.SwapAt n m) vs v)
  altered_calm (ChangeCall-F.Mutate id arguments) vs v = mutated_calm id.number vs v

  change_spot_calm : (x : ChangeCall) (vs : List Value) (s : Spot) → SpotBeyond inputs limit s → Calm inputs limit (change_spot i x vs s)
  unfolding change_spot altered
  change_spot_calm x vs s h =
      calm_then inputs limit (read_spot s) (λ old. altered_by i (out-ChangeCall x) vs old >>= λ r. write_spot s r.value >>= λ y. give r.answer) (read_calm inputs limit s h)
      (λ old. calm_then inputs limit (altered_by i (out-ChangeCall x) vs old) (λ r. write_spot s r.value >>= λ y. give r.answer) (altered_calm (out-ChangeCall x) vs old)
      (λ r. calm_then inputs limit (write_spot s r.value) (λ y. give r.answer) (write_calm inputs limit s r.value h) (λ y. calm_give inputs limit r.answer)))

  pub changed_calm : (x : Change) → Beyond limit (root_alters x.target.root ++ (all_of (map hop_alters x.target.hops) ++ call_layer (out-ChangeCall x.call))) → Calm inputs limit (changed i x)
  unfolding changed change_arguments
  changed_calm x h =
      let rest = back (root_alters x.target.root) (all_of (map hop_alters x.target.hops) ++ call_layer (out-ChangeCall x.call)) h in
      calm_then inputs limit (hops_from i [] x.target.hops) (λ hs. values_from i [] (arguments_at (out-ChangeCall x.call)) >>= λ vs. spot_of x.target.root hs >>= λ s. change_spot i x.call vs s)
      (hops_calm x.target.hops [] (front (all_of (map hop_alters x.target.hops)) (call_layer (out-ChangeCall x.call)) rest))
      (λ hs. calm_then inputs limit (values_from i [] (arguments_at (out-ChangeCall x.call))) (λ vs. spot_of x.target.root hs >>= λ s. change_spot i x.call vs s)
      (values_calm (arguments_at (out-ChangeCall x.call)) [] (arguments_beyond inputs limit (out-ChangeCall x.call) (back (all_of (map hop_alters x.target.hops)) (call_layer (out-ChangeCall x.call)) rest)))
      (λ vs. with_then inputs limit (spot_of x.target.root hs) (λ s. change_spot i x.call vs s)
      (spot_calm inputs limit x.target.root hs (front (root_alters x.target.root) (all_of (map hop_alters x.target.hops) ++ call_layer (out-ChangeCall x.call)) h)) (λ s b. change_spot_calm x.call vs s b)))

  -- ---- expressions

  form_calm : (l : CoreForm) → Beyond limit (core_layer l) → Calm inputs limit (eval_at i l)
  unfolding invoked_value changed_value
  form_calm (Core-F.Literal v) h = calm_answered inputs limit (made v)
  form_calm (Core-F.Look l) h = look_calm inputs limit l
  form_calm (Core-F.«Core::Text» ps) h = text_calm ps h
  form_calm (Core-F.List es) h = list_calm es h
  form_calm (Core-F.Promote e) h = λ w settled. Agree.fails
  form_calm (Core-F.Unary o e) h = operand_calm o e h
  form_calm (Core-F.Binary o a b) h = two_calm o a b (front (core_alters a) (core_alters b) h) (back (core_alters a) (core_alters b) h)
  form_calm (Core-F.Choose t a b) h =
      let rest = back (core_alters t) (core_alters a ++ core_alters b) h in
      choice_calm t a b (front (core_alters t) (core_alters a ++ core_alters b) h) (front (core_alters a) (core_alters b) rest) (back (core_alters a) (core_alters b) rest)
  form_calm (Core-F.Make d fs) h = construction_calm d fs h
  form_calm (Core-F.Static id) h = initial_calm id.number
  form_calm (Core-F.Invoke x) h = calm_then inputs limit (invoked i x) (λ o. given o) (invoked_calm x (subst (Beyond limit) (invocation_is x) h)) (λ o. calm_given inputs limit o)
  form_calm (Core-F.Change x) h = calm_then inputs limit (changed i x) (λ o. given o) (changed_calm x (subst (Beyond limit) (change_is x) h)) (λ o. calm_given inputs limit o)

  eval_form_calm : (e : Core) → Beyond limit (core_alters e) → Calm inputs limit (eval_form i e)
  unfolding eval_form
  eval_form_calm e h = form_calm (out-Core e) (subst (Beyond limit) (core_is e) h)

  promoted_calm : (n : ℕ) (e : Core) → Beyond limit (core_alters e) → Calm inputs limit (promoted_to i n e)
  unfolding promoted_to
  promoted_calm zero e h = eval_form_calm e h
  promoted_calm (suc n) e h = go (promoted_calm n) (out-Core e) (subst (Beyond limit) (core_is e) h)
    where
      go : ((x : Core) → Beyond limit (core_alters x) → Calm inputs limit (promoted_to i n x)) → (l : CoreForm) → Beyond limit (core_layer l) → Calm inputs limit (promoting i (promoted_to i n) e l)
      go below (Core-F.Promote x) k = calm_then inputs limit (promoted_to i n x) (λ v. answered (called_on.promoted v)) (below x k) (λ v. calm_answered inputs limit (called_on.promoted v))
      go below (Core-F.Literal v) k = eval_form_calm e h
      go below (Core-F.Look l) k = eval_form_calm e h
      go below (Core-F.«Core::Text» ps) k = eval_form_calm e h
      go below (Core-F.List es) k = eval_form_calm e h
      go below (Core-F.Unary o a) k = eval_form_calm e h
      go below (Core-F.Binary o a b) k = eval_form_calm e h
      go below (Core-F.Choose t a b) k = eval_form_calm e h
      go below (Core-F.Make d fs) k = eval_form_calm e h
      go below (Core-F.Static id) k = eval_form_calm e h
      go below (Core-F.Invoke x) k = eval_form_calm e h
      go below (Core-F.Change x) k = eval_form_calm e h

  pub value_form_calm : (e : Core) → Beyond limit (core_alters e) → Calm inputs limit (value_form i e)
  unfolding value_form
  value_form_calm e h = promoted_calm (size-Core e) e h

  -- ---- conditions and ranges

  bound_calm : (o : Option Value) → Calm inputs limit (bound i o)
  bound_calm None = calm_give inputs limit false
  bound_calm (Some v) = calm_then inputs limit (push v) (λ x. give true) (calm_push inputs limit v) (λ x. calm_give inputs limit true)

  condition_calm : (x : Condition) → Beyond limit (condition_alters x) → Calm inputs limit (condition_of i x)
  unfolding condition_of bound_to
  condition_calm (condition.Test e) h = tested_calm e h
  condition_calm (condition.Bind e) h = calm_then inputs limit (opened i e) (λ o. bound i o) (opened_calm e h) bound_calm

  pub conditions_calm : (cs : List Condition) → Beyond limit (flat_map condition_alters cs) → Calm inputs limit (conditions i cs)
  unfolding conditions
  conditions_calm [] h = calm_give inputs limit true
  conditions_calm (x ∷ cs) h =
      calm_then inputs limit (condition_of i x) (λ t. choose t (conditions i cs) (give false)) (condition_calm x (front (condition_alters x) (flat_map condition_alters cs) h))
      (λ t. calm_choose inputs limit t (conditions i cs) (give false) (conditions_calm cs (back (condition_alters x) (flat_map condition_alters cs) h)) (calm_give inputs limit false))

  range_calm : (numbers : Bounds → Numbers) (a b : Core) → Beyond limit (core_alters a) → Beyond limit (core_alters b) → Calm inputs limit (range_by i numbers a b)
  unfolding range_by
  range_calm numbers a b h k =
      calm_then inputs limit (i.eval a) (λ x. i.eval b >>= λ y. answered (called_on.bounds_of x y) >>= λ bounds. give (numbers bounds)) (c.eval a h)
      (λ x. calm_then inputs limit (i.eval b) (λ y. answered (called_on.bounds_of x y) >>= λ bounds. give (numbers bounds)) (c.eval b k)
      (λ y. calm_then inputs limit (answered (called_on.bounds_of x y)) (λ bounds. give (numbers bounds)) (calm_answered inputs limit (called_on.bounds_of x y)) (λ bounds. calm_give inputs limit (numbers bounds))))

  indices_calm : (e : Core) → Beyond limit (core_alters e) → Calm inputs limit (indices i e)
  unfolding indices
  indices_calm e h =
      calm_then inputs limit (i.eval e) (λ v. found (parts v) (λ vs. give (places vs))) (c.eval e h)
      (λ v. calm_found inputs limit (parts v) (λ vs. give (places vs)) (λ vs. calm_give inputs limit (places vs)))

  pub span_form_calm : (o : Over) → Beyond limit (over_alters o) → Calm inputs limit (span_form i o)
  unfolding span_form
  span_form_calm (over.UpTo a b) h = range_calm below a b (front (core_alters a) (core_alters b) h) (back (core_alters a) (core_alters b) h)
  span_form_calm (over.Through a b) h = range_calm up_to a b (front (core_alters a) (core_alters b) h) (back (core_alters a) (core_alters b) h)
  span_form_calm (over.Indices e) h = indices_calm e h
  span_form_calm (over.List e) h = λ w settled. Agree.fails
