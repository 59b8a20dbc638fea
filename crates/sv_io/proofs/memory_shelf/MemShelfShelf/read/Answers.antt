use Rattle.std.proofs.Common.{sym, ◌∙◌, ap, string_bytes}
use Rattle.sv_io.specs.Files.{file_in}
use Rattle.sv_io.proofs.Copying.{fits, copied, taken}
use Rattle.sv_io.proofs.memory_shelf.MemShelfShelf.read.Goals as goal

pub invariant_of-self-2 : goal.invariant_of-self-2
invariant_of-self-2 c =
    let known = ap (λ (fs : _). file_in (λ f. string_bytes f.0) (λ f. f.1.items) fs (string_bytes c.args.self.now.asked)) (sym c.deref-2.ensures.value) ∙ c.in-Some.ensures in
    record {
      present = c.args.self.now.present;
      within = λ file is. fits file c.in-Some.bytes.now _ is known c.args.self.now.offset c.min-n.result c.args.buf.now (c.args.self.now.within file is) c.min-n.ensures;
    }

pub returns-clause-bytes : goal.returns-clause-bytes
returns-clause-bytes c = λ file is.
    let known = ap (λ (fs : _). file_in (λ f. string_bytes f.0) (λ f. f.1.items) fs (string_bytes c.args.self.now.asked)) (sym c.deref-2.ensures.value) ∙ c.in-Some.ensures in
    copied file c.in-Some.bytes.now _ is known c.args.self.now.offset c.min-n.result c.args.buf.now (c.args.self.now.within file is) c.min-n.ensures
    c.copy_from_slice.new.self _ c.requires.room c.copy_from_slice.ensures.after

pub returns-clause-takes : goal.returns-clause-takes
returns-clause-takes c = λ file is.
    let known = ap (λ (fs : _). file_in (λ f. string_bytes f.0) (λ f. f.1.items) fs (string_bytes c.args.self.now.asked)) (sym c.deref-2.ensures.value) ∙ c.in-Some.ensures in
    taken file c.in-Some.bytes.now _ is known c.args.self.now.offset c.min-n.result c.args.buf.now (c.args.self.now.within file is) c.min-n.ensures
