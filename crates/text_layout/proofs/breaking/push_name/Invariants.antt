use Rattle.std.proofs.Common.{◌≡◌, ◌++◌, IsUtf8, chars, string_bytes, encode_utf8_all}
use Rattle.std.specs.Prelude.{map}
use Rattle.std.specs.Str.Iter.{chars_rest}
use Rattle.text_layout.specs.Paragraphs.{printable, cleaned}
use Rattle.text_layout.proofs.breaking.push_name.Given as goal

abbrev pub invariant-loop-c : goal.invariant-loop-c
invariant-loop-c l = record {
  text : IsUtf8 (chars_rest l.rest);
  told : string_bytes l.out ++ encode_utf8_all (map printable (cleaned (chars (chars_rest l.rest)))) ≡ string_bytes l.fn.out ++ encode_utf8_all (map printable (cleaned (chars l.fn.name)));
}
