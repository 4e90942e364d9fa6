-- Changes of main words worked out.
use Rattle.std.specs.Prelude.{◌≡◌, ◌+◌, ◌*◌, ◌^◌, true, Some, None}
use Rattle.std.proofs.Common.{refl}
use Rattle.layer_spec.specs.Rows.{Free, Held, Gone}
use Rattle.layer_spec.specs.RowCases.{runs, is_stopped, exited}
use Rattle.layer_spec.specs.Transitions.{Hold, Drop, Publish, Post, Probe, Clear, Stop, TakeOver, Seal, Report, Reap}
use Rattle.layer_spec.specs.Transitions.{Collect, blank, trans}

-- the signals 1, 19 and 31, which are the bits 0, 18 and 30
post_first : trans runs (Post 1) ≡ Some (record runs { pending = 1 })
post_first = refl

post_last : trans runs (Post 31) ≡ Some (record runs { pending = 2 ^ 30 })
post_last = refl

-- a stop signal takes a pending CONT away, and CONT the stop signals
stop_takes_continue : trans (record runs { pending = 2 ^ 17 + 1 }) (Post 20)
    ≡ Some (record runs { pending = 2 ^ 19 + 1 })
stop_takes_continue = refl

continue_takes_stops : trans (record runs { pending = 15 * 2 ^ 18 + 2 ^ 22 }) (Post 18)
    ≡ Some (record runs { pending = 2 ^ 17 + 2 ^ 22 })
continue_takes_stops = refl

-- CONT wakes a stopped process, with a continue to report; every other signal leaves it stopped
continue_wakes : trans (record is_stopped { pending = 2 ^ 20 }) (Post 18)
    ≡ Some (record runs { pending = 2 ^ 17; report = 2 })
continue_wakes = refl

kill_leaves_stopped : trans is_stopped (Post 9) ≡ Some (record is_stopped { pending = 2 ^ 8 })
kill_leaves_stopped = refl

zombie_takes_nothing : trans exited (Post 18) ≡ Some exited
zombie_takes_nothing = refl

held_takes_nothing : trans (blank Held) (Post 15) ≡ None
held_takes_nothing = refl

-- a signal is taken away, and stops, only where it is pending
clear_pending : trans (record runs { pending = 2 ^ 14 + 1 }) (Clear 15) ≡ Some (record runs { pending = 1 })
clear_pending = refl

clear_absent : trans (record runs { pending = 2 ^ 14 }) (Clear 14) ≡ None
clear_absent = refl

clear_in_stopped : trans (record is_stopped { pending = 2 ^ 14 }) (Clear 15) ≡ None
clear_in_stopped = refl

stop_pending : trans (record runs { pending = 2 ^ 21 + 1; report = 2 }) (Stop 22)
    ≡ Some (record is_stopped { stop = 22; pending = 1 })
stop_pending = refl

stop_absent : trans runs (Stop 19) ≡ None
stop_absent = refl

stop_by_term : trans (record runs { pending = 2 ^ 14 }) (Stop 15) ≡ None
stop_by_term = refl

-- what stays of a process at its takeover and at its death
takeover_keeps : trans (record runs { pending = 5; report = 2 }) (TakeOver 9)
    ≡ Some (record runs { pending = 5; report = 2; image = 9; execd = true })
takeover_keeps = refl

takeover_of_stopped : trans is_stopped (TakeOver 9) ≡ None
takeover_of_stopped = refl

seal_running : trans (record runs { pending = 5; report = 2; execd = true }) (Seal 7)
    ≡ Some (record exited { execd = true })
seal_running = refl

seal_stopped : trans is_stopped (Seal 265) ≡ Some (record exited { status = 265 })
seal_stopped = refl

seal_zombie : trans exited (Seal 265) ≡ None
seal_zombie = refl

-- reports: a continue of a running one, a stop of a stopped one
report_continue : trans (record runs { report = 2 }) Report ≡ Some runs
report_continue = refl

report_nothing : trans runs Report ≡ None
report_nothing = refl

report_stop : trans is_stopped Report ≡ Some (record is_stopped { report = 0 })
report_stop = refl

report_twice : trans (record is_stopped { report = 0 }) Report ≡ None
report_twice = refl

-- claiming and giving up
hold_free : trans (blank Free) Hold ≡ Some (blank Held)
hold_free = refl

hold_gone : trans (blank Gone) Hold ≡ None
hold_gone = refl

publish_held : trans (blank Held) (Publish 2) ≡ Some runs
publish_held = refl

publish_free : trans (blank Free) (Publish 2) ≡ None
publish_free = refl

drop_running : trans runs Drop ≡ None
drop_running = refl

reap_zombie : trans exited Reap ≡ Some (blank Gone)
reap_zombie = refl

reap_running : trans runs Reap ≡ None
reap_running = refl

collect_zombie : trans exited Collect ≡ Some (blank Gone)
collect_zombie = refl

collect_gone : trans (blank Gone) Collect ≡ None
collect_gone = refl

probe_gone : trans (blank Gone) Probe ≡ None
probe_gone = refl
