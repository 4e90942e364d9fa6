-- The ends of a pipe, and the replies that its results stand for.
use Rattle.std.specs.Prelude.{ℕ, ◌≤◌, length, Result, Ok, Err}
use Rattle.w32_base.specs.declared.call.Reply.{Reply}
use Rattle.w32_base.specs.declared.call.Reply.TheVariants as reply
use Rattle.win32_spec.specs.Objects.{PipeState}
use Rattle.w32_sync.specs.declared.pipe.PipeEnd.{PipeEnd}
use Rattle.w32_sync.specs.declared.pipe.PipeEnd.TheVariants.{Read, Write}
use Rattle.w32_sync.specs.declared.pipe.PutFault.{PutFault}
use Rattle.w32_sync.specs.declared.pipe.PutFault.TheVariants as put
use Rattle.w32_sync.specs.declared.pipe.GetFault.{GetFault}
use Rattle.w32_sync.specs.declared.pipe.GetFault.TheVariants as get

-- what a pipe has at the most: 64 bytes, and on each end a handle for each of the 64 that 65 processes may have
pub record IsInBounds (p : PipeState) : Type 0 where
  pub bytes : length p.bytes ≤ 64
  pub readers : p.readers ≤ 4160
  pub writers : p.writers ≤ 4160

-- how many handles there are on an end
abbrev pub handles_on : PipeState → PipeEnd → ℕ
handles_on p Read = p.readers
handles_on p Write = p.writers

-- the same pipe with another number of handles on an end
abbrev pub with_handles : PipeState → PipeEnd → ℕ → PipeState
with_handles p Read n = record p { readers = n }
with_handles p Write n = record p { writers = n }

-- the reply that the result of a put stands for
abbrev pub reply_of_put : Result (Unit {0}) PutFault → Reply
reply_of_put (Ok _) = reply.Done
reply_of_put (Err put.NoReader) = reply.NoReader
reply_of_put (Err put.Full) = reply.Full

-- the reply that the result of a get stands for
abbrev pub reply_of_get : Result ℕ GetFault → Reply
reply_of_get (Ok b) = reply.Byte b
reply_of_get (Err get.Broken) = reply.Broken
reply_of_get (Err get.Empty) = reply.Empty
