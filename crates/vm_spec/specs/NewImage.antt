-- The image that a program begins with.
use Rattle.std.specs.Prelude.{ℕ, replicate}
use Rattle.w32_base.specs.declared.setup.Program.{Program}
use Rattle.vm_spec.specs.Image.{Image, with_word}

-- All bytes are zeros but the program's number, which stands at 40 of the data region's 64 bytes.
abbrev pub new_image : ℕ → Program → Image
new_image number program = record {
  dat = with_word (replicate 64 0) 40 number;
  heap = replicate program.heap 0;
  stack = replicate program.stack 0;
}
