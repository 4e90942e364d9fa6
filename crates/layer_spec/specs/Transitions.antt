-- How the main word of a row may change.
use Rattle.std.specs.Prelude.{ℕ, ◌^◌, Bool, true, false, ◌&&◌, nat_eq, nat_lt, if◌then◌else◌, Option, Some, None}
use Rattle.posix_spec.specs.Signals.{is_signal, only, contains, outside, continue_signal, is_stop_signal, generate}
use Rattle.layer_spec.specs.Rows.{RowKind, Free, Held, Running, Stopped, Zombie, Gone, MainWord}

-- A change: a claimed row is held; it is dropped, or published with an image. A signal is posted, only looked for,
-- taken away, or stops the process. Another image takes over. The process dies with a status. Its stop or its continue
-- is reported. The zombie is reaped by its parent, or collected where it has none.
pub data Op : Type 0 where
  Hold : Op
  Drop : Op
  Publish : (image : ℕ) → Op
  Post : (signal : ℕ) → Op
  Probe : Op
  Clear : (signal : ℕ) → Op
  Stop : (signal : ℕ) → Op
  TakeOver : (image : ℕ) → Op
  Seal : (status : ℕ) → Op
  Report : Op
  Reap : Op
  Collect : Op

-- a row of this kind whose other fields are all 0
abbrev pub blank : RowKind → MainWord
blank kind = record { kind = kind; stop = 0; report = 0; execd = false; image = 0; pending = 0; status = 0 }

abbrev pub posted : MainWord → ℕ → MainWord
posted m s = record m { pending = generate m.pending s }

-- a stopped process to which a signal is posted: CONT makes it run again
abbrev pub woken : MainWord → ℕ → MainWord
woken m s =
    if nat_eq s continue_signal then record (posted m s) { kind = Running; report = 2; stop = 0 } else posted m s

abbrev pub without : MainWord → ℕ → MainWord
without m s = record m { pending = outside m.pending (only s) }

-- without a signal, where it is pending
abbrev pub cleared : MainWord → ℕ → Option MainWord
cleared m s = if contains m.pending s then Some (without m s) else None

-- stopped by a signal, where it is pending and one that stops
abbrev pub stopped : MainWord → ℕ → Option MainWord
stopped m s =
    if is_stop_signal s && contains m.pending s
    then Some (record (without m s) { kind = Stopped; stop = s; report = 1 })
    else None

abbrev pub sealed : MainWord → ℕ → MainWord
sealed m status = record (blank Zombie) { execd = m.execd; image = m.image; status = status }

-- without what was to be reported, where it is this
abbrev pub reported : MainWord → ℕ → Option MainWord
reported m report = if nat_eq m.report report then Some (record m { report = 0 }) else None

-- a line of the table: what comes of a free, a held, a running, a stopped, a zombie and a gone row
abbrev pub by_kind : RowKind
    → (of_free of_held of_running of_stopped of_zombie of_gone : Option MainWord) → Option MainWord
by_kind Free of_free of_held of_running of_stopped of_zombie of_gone = of_free
by_kind Held of_free of_held of_running of_stopped of_zombie of_gone = of_held
by_kind Running of_free of_held of_running of_stopped of_zombie of_gone = of_running
by_kind Stopped of_free of_held of_running of_stopped of_zombie of_gone = of_stopped
by_kind Zombie of_free of_held of_running of_stopped of_zombie of_gone = of_zombie
by_kind Gone of_free of_held of_running of_stopped of_zombie of_gone = of_gone

abbrev pub held : MainWord
held = blank Held

abbrev pub gone : MainWord
gone = blank Gone

abbrev pub published : ℕ → MainWord
published image = record (blank Running) { image = image }

abbrev pub taken_over : MainWord → ℕ → MainWord
taken_over m image = record m { image = image; execd = true }

-- The table of changes: what comes of a free, a held, a running, a stopped, a zombie and a gone row, or none where a
-- row of that kind doesn't change so.
abbrev pub trans : MainWord → Op → Option MainWord
trans m Hold = by_kind m.kind (Some held) None None None None None
trans m Drop = by_kind m.kind None (Some gone) None None None None
trans m (Publish image) = by_kind m.kind None (Some (published image)) None None None None
trans m (Post s) = by_kind m.kind None None (Some (posted m s)) (Some (woken m s)) (Some m) None
trans m Probe = by_kind m.kind None None (Some m) (Some m) (Some m) None
trans m (Clear s) = by_kind m.kind None None (cleared m s) None None None
trans m (Stop s) = by_kind m.kind None None (stopped m s) None None None
trans m (TakeOver image) = by_kind m.kind None None (Some (taken_over m image)) None None None
trans m (Seal status) = by_kind m.kind None None (Some (sealed m status)) (Some (sealed m status)) None None
trans m Report = by_kind m.kind None None (reported m 2) (reported m 1) None None
trans m Reap = by_kind m.kind None None None None (Some gone) None
trans m Collect = by_kind m.kind None None None None (Some gone) None

-- whether the numbers of a change are in range: signals 1 to 31, images of 19 bits, statuses of 9 bits
abbrev pub is_op : Op → Bool
is_op Hold = true
is_op Drop = true
is_op (Publish image) = nat_lt image (2 ^ 19)
is_op (Post s) = is_signal s
is_op Probe = true
is_op (Clear s) = is_signal s
is_op (Stop s) = is_signal s
is_op (TakeOver image) = nat_lt image (2 ^ 19)
is_op (Seal status) = nat_lt status (2 ^ 9)
is_op Report = true
is_op Reap = true
is_op Collect = true
