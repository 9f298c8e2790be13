-- What is printed of what was meant.
use Rattle.std.proofs.Common.{ℕ, ◌⊎◌, List, Option, Result, IfOk, inl}
use Rattle.std.proofs.lemmas.Result.{IfOk-weaker}
use Rattle.command_texts.specs.Printing.{IsCut, IsPrinted, Prints}
use Rattle.command_texts.specs.declared.printed.Printed.{Printed}

pub prints_meant : {E : Type 0} (Meant : Printed → Type 0) (printed : Printed) (r : Result ℕ E)
    (output output_then errors errors_then : Option (List ℕ)) → Meant printed
    → IfOk r (λ status. ◌⊎◌ (IsPrinted printed status output output_then errors errors_then)
    (IsCut status errors errors_then))
    → IfOk r (λ status. Prints Meant status output output_then errors errors_then)
prints_meant Meant printed r output output_then errors errors_then meant h =
    IfOk-weaker r
    (λ status. ◌⊎◌ (IsPrinted printed status output output_then errors errors_then) (IsCut status errors errors_then))
    (λ status. Prints Meant status output output_then errors errors_then)
    (λ status. λ is. inl (printed, meant, is)) h
