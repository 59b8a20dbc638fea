-- How a `Boxed` stores its value, so that a type may hold a box of itself.
use mathlib.Core.Path.{refl}
use mathlib.Core.Former.{Former, this, const, pair, via}
use base.Stored.{gnil}
use base.Fml.{ftrue}
use denote.RattleType.{RattleType}
use denote.Memory.{part_of}
use denote.RawPtr.{Ptr}
use denote.Sharing.{nothing}
use denote.HoleLaws.{Alike}
use denote.HolePlaces.{Recodes, struct_places, laid, one_value}
use denote.Hole.Fix.{over}
use denote.Param.Weighed.{Weighed}
use denote.Model.Placed.{view_places}
use Rattle.std.specs.declared.boxed.Box.{Box}
use Rattle.std.specs.contracts.boxed.Box as inner
use Rattle.std.specs.declared.alloc.Global.{Global}
use Rattle.std.specs.contracts.alloc.Global as global
use Rattle.std.specs.contracts.impls.GlobalAllocator.TheImpl as allocator
use Rattle.sv_items.specs.declared.boxed.Boxed.TheInside.{Inside}
use Rattle.sv_items.specs.declared.boxed.Boxed.TheView.{view, invariant}
use Rattle.sv_items.specs.contracts.boxed.Boxed.{the_row}
use Rattle.sv_items.specs.contracts.boxed.Boxed.TheInside as fields

-- what contracts see is the value itself
abbrev pub the_former : Former {0} → Former {0}
the_former value = value

abbrev pub the_weighed : {value : Former {0}} → Weighed value → Weighed (the_former value)
the_weighed measure = measure

-- the one field, a `Box`: an address, an allocator and the value
abbrev of_field : Former {0}
of_field = via (pair (const (Ptr × Global)) this) Inside (λ X whole. ((whole.inner.ptr, whole.inner.alloc), whole.inner.value))
    (λ X part. record { inner = record { ptr = part.0.0; alloc = part.0.1; value = part.1 } }) (λ X whole. refl) (λ X part. refl)

-- the same box round another value
abbrev round : {X Y : Type 0} → Box X Global → Y → Box Y Global
round old value = record { ptr = old.ptr; alloc = old.alloc; value = value }

abbrev box_row : RattleType → RattleType
box_row R = inner.the_row R global.the_row allocator.ghosts

module _ (From To : RattleType) (h : From.Denot → To.Denot) where
  abbrev along : Box From.Denot Global → Box To.Denot Global
  along b = round b (h b.value)

  -- what a box owns and lends depends on its value's row only through that value's layout and what the value owns and lends
  boxes : Alike From To h → Alike (box_row From) (box_row To) along
  unfolding part_of
  boxes alike = record {
    mir_same = λ i. (box_row (one_value From (alike.mir_same i) (λ _. ftrue) (λ _ _. nothing) gnil)).mir;
    own_same = λ b i. (box_row (one_value From (alike.mir_same i) (alike.own_same b.value i) (alike.shr_same b.value i) gnil)).own_val (round b tt);
    shr_same = λ b i. (box_row (one_value From (alike.mir_same i) (alike.own_same b.value i) (alike.shr_same b.value i) gnil)).shr_at (round b tt);
  }

  inside : Alike From To h → Alike (fields.the_row From) (fields.the_row To) (of_field.map From.Denot To.Denot h)
  inside alike = struct_places (fields.the_type From) (fields.the_type To) (along, tt) _ (λ d. refl) refl (laid _ _ _ (boxes alike), tt)

  pub the_places : Alike From To h → Alike (the_row From) (the_row To) ((the_former this).map From.Denot To.Denot h)
  the_places alike =
      view_places of_field this view (λ X Y k u. refl) (λ X u. refl) From.Denot To.Denot h (the_row From).coded (the_row To).coded
      (invariant From.Denot) (invariant To.Denot) (λ u p q. refl) (λ u p q. refl) (λ u holds. tt) (λ u holds. tt)
      (over (fields.the_row From)) (over (fields.the_row To)) (inside alike)

  pub the_codes_placed : Recodes From To h → Recodes (the_row From) (the_row To) ((the_former this).map From.Denot To.Denot h)
  the_codes_placed same value = same value
