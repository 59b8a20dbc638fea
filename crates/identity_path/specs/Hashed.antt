-- What a path feeds a hasher.
use Rattle.std.specs.Prelude.{List, [], ◌∷◌, ◌++◌}
use Rattle.std.specs.List.{flat_map}
use Rattle.std.specs.Hash as fed
use Rattle.std.specs.Hash.{HashWrites}
use Rattle.sv_value.specs.declared.value.Value.{Value, out-Value}
use Rattle.sv_value.specs.declared.value.Value.TheOpen as value
use Rattle.sv_value.specs.declared.value.Value.TheOpen.{Value-F}
use Rattle.identity_path.specs.declared.step.Step.{Step}
use Rattle.identity_path.specs.declared.step.Step.TheVariants as step

-- numbers, truth values and texts whole, and of other values the kind alone
abbrev pub layer_writes : Value-F Value → HashWrites
layer_writes (value.Int n) = fed.i64 n
layer_writes (value.Bool b) = fed.bool b
layer_writes (value.Str text) = text ∷ []
layer_writes (value.List parts) = fed.u8 0
layer_writes (value.Opt part) = fed.u8 1
layer_writes (value.Struct kind parts) = fed.u32 kind
layer_writes (value.Case kind place) = fed.u32 place

abbrev pub value_writes : Value → HashWrites
value_writes v = layer_writes (out-Value v)

abbrev pub step_writes : Step → HashWrites
step_writes (step.Child i) = fed.u8 0 ++ fed.u32 i
step_writes (step.Branch i) = fed.u8 1 ++ fed.u32 i
step_writes (step.Item id again) = fed.u32 again ++ value_writes id
step_writes (step.Id id) = fed.u8 3 ++ value_writes id
step_writes (step.View i) = fed.u8 4 ++ fed.u32 i
step_writes (step.Overlay i) = fed.u8 5 ++ fed.u32 i
step_writes (step.Background i) = fed.u8 6 ++ fed.u32 i
step_writes (step.Pref i) = fed.u8 7 ++ fed.u32 i

abbrev pub path_writes : List Step → HashWrites
path_writes = flat_map step_writes
