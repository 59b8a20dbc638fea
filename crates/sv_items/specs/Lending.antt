-- What a box ends as when its value was lent for writing.
use Rattle.std.specs.Borrow.{Lends, MutBor, Fml}
use denote.RattleType.{RattleType}
use Rattle.sv_items.specs.contracts.boxed.Boxed.{the_row}

-- the box ends as the last value behind r
abbrev pub LendsInner : (R : RattleType) → MutBor R.Denot → MutBor R.Denot → Fml
LendsInner R boxed r = Lends (the_row R) R boxed r (λ w. w)
