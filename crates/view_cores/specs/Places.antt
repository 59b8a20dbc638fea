-- Where locals that hold places stand in a view, so do the places that can be bound, and the locals that conditions and items add.
use Rattle.std.specs.Prelude.{◌≡◌, zero, suc, true, List, [], ◌∷◌, map, Option}
use Rattle.swift_core.specs.Context.{Context, Local, Itself, with_local}
use Rattle.swift_core.specs.Mentions.{is_among_cells}
use Rattle.swift_core.specs.Typing.{Begins, Binds, Conditions, Item, ItemForm, Places, PlacesStand}
use Rattle.swift_core.specs.declared.stmt.Condition.{Condition}
use Rattle.swift_core.specs.declared.term.Root.{Root}
use Rattle.swift_core.specs.declared.term.Target.{Target}
use Rattle.swift_core.specs.declared.ty.Ty.{Ty}
use Rattle.view_cores.specs.Blocks.{places_valued}

module _ (cx : Context) where
  -- the parameters of a function hold values
  pub all_valued : (ts : List Ty) → PlacesStand cx (map Local.valued ts)
  all_valued [] i t e = cc
  all_valued (u ∷ ts) zero t e = cc
  all_valued (u ∷ ts) (suc i) t e = all_valued ts i t e

  begins_view : (ls : List Local) (r : Root) (t : Ty) → PlacesStand cx ls → Begins cx ls r t → is_among_cells r ≡ true → cx.itself ≡ Itself.a_view
  begins_view ls r t stand (Begins.at_local e) cell = cc
  begins_view ls r t stand (Begins.at_bound_local {i = i} e) cell = stand i t e
  begins_view ls r t stand (Begins.at_bound_input view has form) cell = view
  begins_view ls r t stand (Begins.at_slot view has form) cell = view
  begins_view ls r t stand (Begins.at_itself changed owned) cell = cc

  pub binds_view : (ls : List Local) (target : Target) (t : Ty) → PlacesStand cx ls → Binds cx ls target t → cx.itself ≡ Itself.a_view
  binds_view ls target t stand (Binds.bound cell (Places.reached {t = u} begins leads)) = begins_view ls target.root u stand begins cell

  pub places_within : (ls : List Local) (cs : List Condition) (after : List Local) → Conditions cx ls cs after → PlacesStand cx ls → PlacesStand cx after
  places_within ls cs after Conditions.no_conditions stand = stand
  places_within ls cs after (Conditions.test {cs = rest} h more) stand = places_within ls rest after more stand
  places_within ls cs after (Conditions.bind {cs = rest} {t = t} h inside more) stand = places_within _ rest after more (places_valued cx ls t stand)

  pub places_behind : (ls : List Local) (form : ItemForm) (o : Option Local) → Item cx ls form o → PlacesStand cx ls → PlacesStand cx (with_local ls o)
  places_behind ls form o (Item.declare_item {t = t} h) stand = places_valued cx ls t stand
  places_behind ls form o (Item.decide_item h) stand = stand
  places_behind ls form o (Item.decide_else_item h g) stand = stand
  places_behind ls form o (Item.switch_item h covers g) stand = stand
  places_behind ls form o (Item.view h g) stand = stand
