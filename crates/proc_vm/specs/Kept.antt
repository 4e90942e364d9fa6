-- What a block of local instructions changed, kept so that the block can be taken back.
use Rattle.std.specs.Prelude.{◌≡◌, ℕ, ◌+◌, ◌≤◌, ◌<◌, List, [], ◌∷◌, ◌++◌, length, take, drop, slice_set, Option, Some}
use Rattle.std.specs.Prelude.{None, All}
use Rattle.vm_spec.specs.Image.{Image, with_word, in_use}
use Rattle.proc_vm.specs.declared.kept.Change.{Change}
use Rattle.proc_vm.specs.declared.kept.Change.TheVariants as change

-- the data region before the block, and the changes of heap and stack in their order
pub record Kept : Type 0 where
  pub dat : List ℕ
  pub changes : List Change

-- the bytes of an image outside its data region
pub record Contents : Type 0 where
  pub heap : List ℕ
  pub stack : List ℕ

abbrev pub contents_of : Image → Contents
contents_of image = record { heap = image.heap; stack = image.stack }

-- the image of these contents and a data region
abbrev pub with_contents : List ℕ → Contents → Image
with_contents dat c = record { dat = dat; heap = c.heap; stack = c.stack }

-- with a number written into the four bytes that follow those in use
abbrev pub with_pushed : Image → ℕ → Contents
with_pushed image number = record { heap = image.heap; stack = with_word image.stack (in_use image) number }

-- with what stood at a place before its change
abbrev pub put_back : Change → Contents → Contents
put_back (change.HeapByte place byte) c = record c { heap = slice_set c.heap place byte }
put_back (change.StackBytes place bytes) c =
    record c { stack = take place c.stack ++ bytes ++ drop (place + 4) c.stack }

-- the last change is taken back first
abbrev pub put_all_back : List Change → Contents → Contents
put_all_back [] c = c
put_all_back (change ∷ changes) c = put_back change (put_all_back changes c)

-- the image before the block, from the one after it
abbrev pub taken_back : Kept → Image → Image
taken_back kept image = with_contents kept.dat (put_all_back kept.changes (contents_of image))

-- the contents after a change are taken back to those before it; none is needed where they stay
abbrev pub IsChange : Contents → Contents → Option Change → Type 0
IsChange old new None = new ≡ old
IsChange old new (Some change) = put_back change new ≡ old

-- a place that lies in its region
abbrev pub IsWithin : Contents → Change → Type 0
IsWithin c (change.HeapByte place byte) = place < length c.heap
IsWithin c (change.StackBytes place bytes) = place + 4 ≤ length c.stack

-- what is kept fits an image
pub record Fits (kept : Kept) (image : Image) : Type 0 where
  pub dat : length kept.dat ≡ 64
  pub most : length kept.changes ≤ 256
  pub places : All (IsWithin (contents_of image)) kept.changes
