use Rattle.std.proofs.Common.{◌≡◌, drop, string_bytes}
use Rattle.sv_io.specs.Files.{file_in}
use Rattle.sv_io.proofs.memory_shelf.bytes_of.Given as goal

abbrev pub invariant-loop-file : goal.invariant-loop-file
invariant-loop-file l = file_in (λ f. string_bytes f.0) (λ f. f.1.items) l.files (string_bytes l.name) ≡ file_in (λ f. string_bytes f.0) (λ f. f.1.items) (drop l.file-index l.files) (string_bytes l.name)
