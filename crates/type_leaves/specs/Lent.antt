-- What the code lends of the syntax tree.
use Rattle.std.specs.Prelude.{◌≡◌}
use Rattle.view_rules.specs.Forms.{Head, Named, Inside, Nothing}
use Rattle.type_leaves.specs.declared.forms.Headed.{Headed}
use Rattle.type_leaves.specs.declared.forms.Headed.TheVariants as headed

abbrev pub IsHead : Headed → Head → Type 0
IsHead (headed.Named own w parts) h = h ≡ Named own w.now parts.now
IsHead (headed.Inside e parts) h = h ≡ Inside e.now parts.now
IsHead headed.Nothing h = h ≡ Nothing
