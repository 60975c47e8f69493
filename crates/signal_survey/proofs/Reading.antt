-- The signal to which a link is bound.
use Rattle.std.proofs.Common.{◌≡◌, ℕ, zero, suc, ◌<◌, ◌≤◌, List, [], ◌∷◌, length, get_or, None, refl, arith}
use Rattle.std.specs.Prelude.{slice_get}
use Rattle.code_forms.specs.declared.module_code.CodeLink.{CodeLink}
use Rattle.object_files.specs.declared.image.Link.{Link}
use Rattle.signaller.specs.Search.{linked}
use Rattle.machine_rules.specs.LookUps.{signal_bound, signals_bound}

pub linked_there : (links : List CodeLink) (table : List Link) (k : ℕ) (c : CodeLink) (b : Link) → k < length links → k < length table
    → linked (slice_get (signals_bound links table) k) ≡ signal_bound (get_or links k c).kind (get_or table k b)
unfolding signals_bound
linked_there [] table k c b h i = absurd (omega arith)
linked_there (l ∷ ls) [] k c b h i = absurd (omega arith)
linked_there (l ∷ ls) (t ∷ ts) zero c b h i = refl
linked_there (l ∷ ls) (t ∷ ts) (suc k) c b h i = linked_there ls ts k c b (omega arith) (omega arith)

pub linked_short : (links : List CodeLink) (table : List Link) (k : ℕ) → length links ≤ k → linked (slice_get (signals_bound links table) k) ≡ None
unfolding signals_bound
linked_short [] table k h = refl
linked_short (l ∷ ls) [] k h = refl
linked_short (l ∷ ls) (t ∷ ts) zero h = absurd (omega arith)
linked_short (l ∷ ls) (t ∷ ts) (suc k) h = linked_short ls ts k (omega arith)

pub linked_past : (links : List CodeLink) (table : List Link) (k : ℕ) → length table ≤ k → linked (slice_get (signals_bound links table) k) ≡ None
unfolding signals_bound
linked_past [] table k h = refl
linked_past (l ∷ ls) [] k h = refl
linked_past (l ∷ ls) (t ∷ ts) zero h = absurd (omega arith)
linked_past (l ∷ ls) (t ∷ ts) (suc k) h = linked_past ls ts k (omega arith)
