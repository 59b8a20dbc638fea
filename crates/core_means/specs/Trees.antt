-- One step after another, under a look-up.
use Rattle.std.specs.Prelude.{◌≡◌, Some, None, Ok, Err}
use Rattle.std.proofs.Common.{refl}
use Rattle.identity_path.specs.declared.input.Input.{Input}
use Rattle.core_means.specs.Sources.{Found}
use Rattle.core_means.specs.Asks.{World, Asks, Done, Trapped, Wrong, Ask, Doing, and_then, Look, Reads, Answer, asked, noted, under, after}

asked_then : {A B : Type 0} (o : Found) (w : World) (reads : Reads) (g : Input → Answer A) (h : Input → Answer B) (f : A → World → Reads → Answer B)
    → ((v : Input) → h v ≡ after (g v) f) → asked o w reads h ≡ after (asked o w reads g) f
asked_then None w reads g h f e = refl
asked_then (Some (Err missing)) w reads g h f e = refl
asked_then (Some (Ok v)) w reads g h f e = e v

pub under_then : {A B : Type 0} (look : Look) (reads : Reads) (m : Asks A) (f : A → Doing B)
    → under look reads (and_then m f) ≡ after (under look reads m) (λ x w r. under look r (f x w))
unfolding under and_then
under_then look reads (Done x w) f = refl
under_then look reads (Trapped k w) f = refl
under_then look reads Wrong f = refl
under_then look reads (Ask s w g) f =
    asked_then (look s) w reads (λ v. under look (noted s v reads) (g v)) (λ v. under look (noted s v reads) (and_then (g v) f)) (λ x u r. under look r (f x u))
    (λ v. under_then look (noted s v reads) (g v) f)
