use Rattle.std.proofs.Common.{◌≡◌, ◌+◌, ◌*◌, ◌++◌, length, take, flat_map}
use Rattle.log_spec.specs.Texts.{byte_text}
use Rattle.log_text.proofs.words.push_bytes.Given as goal

abbrev pub invariant-loop-byte : goal.invariant-loop-byte
invariant-loop-byte l = record {
  text : l.line ≡ l.initial.line ++ flat_map byte_text (take l.byte-index l.bytes);
  size : length l.line ≡ length l.initial.line + 2 * l.byte-index;
}
