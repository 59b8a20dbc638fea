-- What is asked of places at each number.
use Rattle.std.proofs.Common.{◌≡◌, ℕ, zero, suc, ◌+◌, ◌-◌, ◌<◌, ◌≤◌, List, [], ◌∷◌, ◌++◌, map, min, length, get_or, Option, Some, slice_get, sym, ap, ◌∙◌, arith, length-append}
use Rattle.std.proofs.lemmas.List.{length-map}
use Rattle.identity_path.specs.declared.input.Input.{Input}
use Rattle.swift_core.specs.Context.{Local, local_of}
use Rattle.swift_core.specs.declared.code.LocalType.{LocalType}
use Rattle.swift_core.specs.declared.table.Signature.{Signature}
use Rattle.core_means.specs.declared.parts.Frame.{Frame}
use Rattle.place_tests.specs.Demands.{Demand}
use Rattle.frame_tests.specs.Demands.{form_demand, local_demand, local_demands, demands_of}

as_many_locals : (ts : List LocalType) (xs : List Input) → length (local_demands (map local_of ts) xs) ≡ min (length ts) (length xs)
as_many_locals [] xs = omega arith
as_many_locals (t ∷ ts) [] = omega arith
as_many_locals (t ∷ ts) (x ∷ xs) = omega (arith, as_many_locals ts xs)

pub as_many : (frame : Frame) (ms : List Signature) (ts : List LocalType) → length (demands_of frame ms (map local_of ts)) ≡ length ms + min (length ts) (length frame.locals)
as_many frame ms ts =
    let of_members : length (map (λ (s : Signature). form_demand frame s.form) ms) ≡ length ms = length-map ms (λ (s : Signature). form_demand frame s.form) in
    let of_locals = as_many_locals ts frame.locals in
    let both = length-append (map (λ (s : Signature). form_demand frame s.form) ms) (local_demands (map local_of ts) frame.locals) in
    omega (arith, of_members, of_locals, both)

-- ---- at one number

at_front : {X : Type 0} (f : Signature → X) (ms : List Signature) (ys : List X) (at : ℕ) (m : Signature) → at < length ms → m ≡ get_or ms at m → slice_get (map f ms ++ ys) at ≡ Some (f m)
at_front f [] ys at m h e = absurd (omega (arith, h))
at_front f (s ∷ ms) ys zero m h e = ap (λ (x : Signature). Some (f x)) (sym e)
at_front f (s ∷ ms) ys (suc at) m h e = at_front f ms ys at m (omega (arith, h)) e

at_back : {X : Type 0} (f : Signature → X) (ms : List Signature) (ys : List X) (at : ℕ) → length ms ≤ at → slice_get (map f ms ++ ys) at ≡ slice_get ys (at - length ms)
at_back f [] ys at h = let same : at ≡ at - 0 = omega arith in ap (slice_get ys) same
at_back f (s ∷ ms) ys zero h = absurd (omega (arith, h))
at_back f (s ∷ ms) ys (suc at) h =
    let same : at - length ms ≡ suc at - suc (length ms) = omega arith in
    at_back f ms ys at (omega (arith, h)) ∙ ap (slice_get ys) same

local_at : (ts : List LocalType) (xs : List Input) (k : ℕ) (t : LocalType) (x : Input) → k < length ts → k < length xs → t ≡ get_or ts k t → x ≡ get_or xs k x → slice_get (local_demands (map local_of ts) xs) k ≡ Some (local_demand (local_of t) x)
local_at [] xs k t x h g e f = absurd (omega (arith, h))
local_at (u ∷ ts) [] k t x h g e f = absurd (omega (arith, g))
local_at (u ∷ ts) (y ∷ xs) zero t x h g e f = ap (λ (w : LocalType). Some (local_demand (local_of w) y)) (sym e) ∙ ap (λ (z : Input). Some (local_demand (local_of t) z)) (sym f)
local_at (u ∷ ts) (y ∷ xs) (suc k) t x h g e f = local_at ts xs k t x (omega (arith, h)) (omega (arith, g)) e f

-- of a member
pub of_member : (frame : Frame) (ms : List Signature) (ls : List Local) (at : ℕ) (m : Signature) (o : Option Demand) → at < length ms → m ≡ get_or ms at m → o ≡ form_demand frame m.form → Some o ≡ slice_get (demands_of frame ms ls) at
of_member frame ms ls at m o h e is = ap Some is ∙ sym (at_front (λ (s : Signature). form_demand frame s.form) ms (local_demands ls frame.locals) at m h e)

-- of a local
pub of_local : (frame : Frame) (ms : List Signature) (ts : List LocalType) (at : ℕ) (t : LocalType) (x : Input) (o : Option Demand) → length ms ≤ at → at - length ms < length ts → at - length ms < length frame.locals
    → t ≡ get_or ts (at - length ms) t → x ≡ get_or frame.locals (at - length ms) x → o ≡ local_demand (local_of t) x → Some o ≡ slice_get (demands_of frame ms (map local_of ts)) at
of_local frame ms ts at t x o h g k e f is =
    ap Some is
    ∙ sym (at_back (λ (s : Signature). form_demand frame s.form) ms (local_demands (map local_of ts) frame.locals) at h ∙ local_at ts frame.locals (at - length ms) t x g k e f)

-- ---- the number is that of a local

pub in_types : (frame : Frame) (ms : List Signature) (ts : List LocalType) (at : ℕ) → at < length (demands_of frame ms (map local_of ts)) → length ms ≤ at → at - length ms < length ts
in_types frame ms ts at h g = let all = as_many frame ms ts in omega (arith, all, h, g)

pub in_locals : (frame : Frame) (ms : List Signature) (ts : List LocalType) (at : ℕ) → at < length (demands_of frame ms (map local_of ts)) → length ms ≤ at → at - length ms < length frame.locals
in_locals frame ms ts at h g = let all = as_many frame ms ts in omega (arith, all, h, g)
