-- What a reader of words answers.
use Rattle.std.specs.Prelude.{Option, Some, None, Result, Ok, Err}
use Rattle.script_spec.specs.declared.fault.Kind.{Kind}

-- the fault, where it is one
abbrev pub fault_in : {T : Type 0} → Result T Kind → Option Kind
fault_in (Ok x) = None
fault_in (Err kind) = Some kind
