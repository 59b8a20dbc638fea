-- How a list of `Items` stores its items, so that a type may hold a list of itself.
use mathlib.Core.Path.{◌≡◌, refl, sym}
use mathlib.Core.List.{List, []}
use mathlib.Core.Former.{Former, this, list, via, children}
use base.Stored.{code_map}
use denote.RattleType.{RattleType}
use denote.HoleLaws.{Alike}
use denote.HolePlaces.{Recodes, struct_places, laid}
use denote.Hole.Carrier.{listed, list-listed}
use denote.Hole.Fix.{over}
use denote.Param.Weighed.{Weighed, w_list}
use denote.Model.Placed.{view_places}
use Rattle.std.specs.declared.alloc.Global.{Global}
use Rattle.std.specs.contracts.alloc.Global as global
use Rattle.std.specs.contracts.impls.GlobalAllocator.TheImpl as allocator
use Rattle.std.specs.formers.vec.Vec as inner
use Rattle.sv_items.specs.declared.items.Items.TheInside.{Inside}
use Rattle.sv_items.specs.declared.items.Items.TheView.{view, invariant}
use Rattle.sv_items.specs.contracts.items.Items.{the_row}
use Rattle.sv_items.specs.contracts.items.Items.TheInside as fields

-- what contracts see is a list, so its shape is a list of shapes
abbrev pub the_former : Former {0} → Former {0}
the_former item = list item

abbrev pub the_weighed : {item : Former {0}} → Weighed item → Weighed (the_former item)
the_weighed measure = w_list measure

pub the_empty : List ⊥
the_empty = []

abbrev pub the_items : (X : Type 0) → List X → List X
the_items X xs = xs

pub the_items_listed : (X : Type 0) (xs : List X) → listed _ (children (the_former this) X xs) ≡ the_items X xs
the_items_listed X = list-listed X

-- the one field, a `Vec`
abbrev of_field : Former {0}
of_field = via (inner.the_former this Global) Inside (λ X whole. whole.items) (λ X part. record { items = part }) (λ X whole. refl) (λ X part. refl)

module _ (From To : RattleType) (h : From.Denot → To.Denot) where
  -- the field goes along h, as a `Vec` does
  inside : Alike From To h → Alike (fields.the_row From) (fields.the_row To) (of_field.map From.Denot To.Denot h)
  inside alike =
      let vecs = inner.the_places global.the_row allocator.ghosts From To h alike in
      struct_places (fields.the_type From) (fields.the_type To) (inner.mapped h, tt) _ (λ d. refl) refl (laid _ _ _ vecs, tt)

  -- and the view shows each item of the field, in order
  pub the_places : Alike From To h → Alike (the_row From) (the_row To) ((the_former this).map From.Denot To.Denot h)
  the_places alike =
      view_places of_field (the_former this) view (λ X Y k u. refl) (λ X u. refl) From.Denot To.Denot h (the_row From).coded (the_row To).coded
      (invariant From.Denot) (invariant To.Denot) (λ u p q. refl) (λ u p q. refl) (λ u holds. tt) (λ u holds. tt)
      (over (fields.the_row From)) (over (fields.the_row To)) (inside alike)

  pub the_codes_placed : Recodes From To h → Recodes (the_row From) (the_row To) ((the_former this).map From.Denot To.Denot h)
  the_codes_placed same xs = sym (code_map From.coded.code To.coded.code h (λ x. sym (same x)) xs)
