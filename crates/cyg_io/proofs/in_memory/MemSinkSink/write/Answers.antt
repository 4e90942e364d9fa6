use Rattle.std.proofs.Common.{inl, inr, refl, rules, ◌≡◌, ℕ, List, Contains, sym}
use Rattle.cyg_io.specs.States.{next_call}
use Rattle.cyg_io.proofs.in_memory.MemSinkSink.write.Goals as goal
use Rattle.cyg_io.proofs.in_memory.MemSinkSink.write.Goals.{then-is_to_fail-via-then-is_to_fail}
use Rattle.cyg_io.proofs.in_memory.MemSinkSink.write.Goals.{then-is_to_fail-via-else-is_to_fail+then-not-is_empty}

-- the number that was looked for is that of the next call, and the list is the sink's
same_call : (listed fails : List ℕ) (number calls : ℕ) → listed ≡ fails → number ≡ next_call calls
    → Contains listed number → Contains fails (next_call calls)
same_call listed fails number calls same_list same_number has = rw (sym same_list, sym same_number) has

pub returns-then-is_to_fail-clause-fails : goal.returns-then-is_to_fail-clause-fails
returns-then-is_to_fail-clause-fails c = elim c.then-is_to_fail.branch [
  | then-is_to_fail-via-then-is_to_fail w ↦
      (λ _. inl (same_call _ _ _ _ (search rules) (search rules) (w.if-is_to_fail.ensures.0 refl)), λ _. refl)
  | then-is_to_fail-via-else-is_to_fail+then-not-is_empty w ↦ (λ _. inr (search rules), λ _. refl)
]
