-- What a contract sees of a shelf in memory.
use Rattle.std.specs.Prelude.{ℕ, List, Option, Some, string_bytes}
use Rattle.sv_io.specs.declared.memory_shelf.MemShelf.{MemShelf}
use Rattle.sv_io.specs.Files.{file_in}
use Rattle.sv_io.specs.Shelf.{ShelfState}

-- the bytes of the file of each name
abbrev pub files_of : MemShelf → List ℕ → Option (List ℕ)
files_of shelf = file_in (λ f. string_bytes f.0) (λ f. f.1.items) shelf.files.items

-- how many calls of `choose` and `read` were made
abbrev pub calls_of : MemShelf → ℕ
calls_of shelf = shelf.calls

-- the numbers of the calls that are to fail
abbrev pub fails_of : MemShelf → List ℕ
fails_of shelf = shelf.fails.items

-- the shelf as any shelf is seen: this one tells its files
abbrev pub shelf_state : MemShelf → ShelfState
shelf_state shelf = record {
  holds = Some (files_of shelf);
  asked = string_bytes shelf.asked;
  chosen = shelf.chosen;
  offset = shelf.offset;
  failed = shelf.failed;
  faults = shelf.faults;
}
