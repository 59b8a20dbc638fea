use Rattle.std.proofs.Common.{◌≡◌, []}
use Rattle.read_law.specs.Law.{agrees, differs}
use Rattle.read_law.proofs.depends_on_reads.Goals as goal

pub returns : goal.returns
returns c = record {
  same = λ one two m x w reads. agrees one two [] reads m x w tt;
  other = λ one two m reads y u others. differs one two m reads y u others;
}
