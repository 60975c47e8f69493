-- What the code's readers have to do with the forms: one result, and the same bytes left, unless memory runs out.
use Rattle.std.specs.Prelude.{◌≡◌, ◌≢◌, ℕ, List, Result, Ok, Err}
use Rattle.file_forms.specs.declared.stopped.Stopped.{Stopped}
use Rattle.file_forms.specs.declared.stopped.Stopped.TheVariants.{Memory}
use Rattle.file_forms.specs.Forms.{Reading}

-- where contracts see what was read by a view
abbrev pub ReadsAs : {X A : Type 0} → (X → A) → Reading A → Result X Stopped → List ℕ → Type 0
ReadsAs view reading (Ok x) new = reading ≡ Ok (view x, new)
ReadsAs view reading (Err why) new = why ≢ Memory → reading ≡ Err why

abbrev pub Reads : {A : Type 0} → Reading A → Result A Stopped → List ℕ → Type 0
Reads reading (Ok a) new = reading ≡ Ok (a, new)
Reads reading (Err why) new = why ≢ Memory → reading ≡ Err why
