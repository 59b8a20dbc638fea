use Rattle.std.proofs.Common.{◌≡◌, ◌++◌, IsUtf8, chars, string_bytes, encode_utf8_all}
use Rattle.std.specs.Prelude.{map}
use Rattle.std.specs.Str.Iter.{chars_rest}
use Rattle.text_layout.specs.Paragraphs.{put_before, parts_of, cleaned, paragraphs}
use Rattle.text_layout.proofs.breaking.paragraphs.Given as goal

abbrev pub invariant-loop-c : goal.invariant-loop-c
invariant-loop-c l = record {
  text : IsUtf8 (chars_rest l.rest);
  told : map string_bytes l.done.items ++ put_before (string_bytes l.current) (map encode_utf8_all (parts_of (cleaned (chars (chars_rest l.rest))))) ≡ paragraphs l.fn.text;
}
