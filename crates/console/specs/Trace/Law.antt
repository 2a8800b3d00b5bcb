-- What the histories are made of: cited by the proofs of this crate and by nothing else.
use Rattle.std.specs.Prelude.{◌≡◌, ℕ, ◌+◌, ◌%◌, ◌^◌, ◌≤◌, Bool, true, List, length, Result, Ok, Err, is_err, refl}
use Rattle.std.specs.declared.io.Stdin.{Stdin}
use Rattle.std.specs.declared.io.Stdout.{Stdout}
use Rattle.std.proofs.Common.{sym, ap, ◌∙◌, true≢false, arith}
use Rattle.std.proofs.lemmas.List.{length-take-le}
use Rattle.console.specs.declared.Source.{Source}
use Rattle.console.specs.declared.Source.TheVariants.{Standard}
use Rattle.console.specs.declared.Input.{Input}
use Rattle.console.specs.declared.Output.{Output}
use Rattle.console.specs.Trace.{without_input, none_of, OfFile, without_output, took, wrote, FilledFrom, came}

pub no_input : (s : Stdin) → record { argument = 0; source = Standard s; seen = 0 } ≡ without_input
unfolding without_input
no_input s = refl

pub of_file : (argument : ℕ) (s : Source) → OfFile argument (record { argument = argument; source = s; seen = 0 })
unfolding none_of
of_file argument s = record { source = s; begins = refl }

pub no_output : (s : Stdout) → record { to = s; sent = 0 } ≡ without_output
unfolding without_output
no_output s = refl

pub wrote_is : (o : Output) (b : List ℕ) (whole : Bool) {n : ℕ} → n ≡ (o.sent + length b) % 2 ^ 64
    → record { to = o.to; sent = n } ≡ wrote o b whole
unfolding wrote
wrote_is o b whole e = ap (λ (k : ℕ). record { to = o.to; sent = k }) e

-- what came stands at the start of the buffer
pub filled : {E : Type 0} (i : Input) (b : List ℕ) (answer : Result ℕ E) (n : ℕ) (failed : Bool) → n ≡ came answer (length b)
    → failed ≡ is_err answer
    → FilledFrom i b (record {
      count = n;
      failed = failed;
      input = record { argument = i.argument; source = i.source; seen = (i.seen + n) % 2 ^ 64 };
    })
unfolding took
filled i b answer n failed c f = record {
  within = within answer c;
  none = λ e. none answer c (sym f ∙ e);
  next = ap (λ (k : ℕ). record { argument = i.argument; source = i.source; seen = (i.seen + k) % 2 ^ 64 })
      (sym (length-take-le n b (within answer c)));
}
  where
    within : {E : Type 0} (answer : Result ℕ E) → n ≡ came answer (length b) → n ≤ length b
    within (Ok k) c = omega arith
    within (Err k) c = omega arith

    none : {E : Type 0} (answer : Result ℕ E) → n ≡ came answer (length b) → is_err answer ≡ true → n ≡ 0
    none (Ok k) c t = absurd (true≢false (sym t))
    none (Err k) c t = c
