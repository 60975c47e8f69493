-- What a list of declarations leaves: their heads, how many of them are procedures, their signals and what is public, each in the order of the text.
use Rattle.std.specs.Prelude.{ℕ, ◌+◌, List, [], ◌∷◌, ◌++◌, map}
use Rattle.syntax_trees.specs.Syntax as s
use Rattle.check_rules.specs.Around.{Around}
use Rattle.interface_records.specs.PlainTypes.{PlainItem}
use Rattle.check_rules.specs.Programs.{Declared, Stated, Offer, all_declared, signals_of, offers_of}
use Rattle.check_rules.specs.Steps.{Check, ◌>>=◌, pure}

pub record Found : Type 0 where
  pub heads : List Stated
  pub procedures : ℕ
  pub signals : List PlainItem
  pub offers : List Offer

abbrev pub nothing_found : Found
nothing_found = record { heads = []; procedures = 0; signals = []; offers = [] }

unfoldable pub procedures_of : List Declared → ℕ
procedures_of [] = 0
procedures_of (d ∷ ds) = d.procedures + procedures_of ds

abbrev pub found_in : List Declared → Found
found_in ds = record {
  heads = map (λ (d : Declared). d.head) ds;
  procedures = procedures_of ds;
  signals = signals_of ds;
  offers = offers_of ds;
}

-- with one declaration more
abbrev pub with_one : Found → Declared → Found
with_one f d = record {
  heads = f.heads ++ d.head ∷ [];
  procedures = f.procedures + d.procedures;
  signals = f.signals ++ d.signals;
  offers = f.offers ++ d.offers;
}

abbrev pub behind : Found → Found → Found
behind f g = record {
  heads = f.heads ++ g.heads;
  procedures = f.procedures + g.procedures;
  signals = f.signals ++ g.signals;
  offers = f.offers ++ g.offers;
}

-- what a rule declares, behind what is found
abbrev pub also : Found → Check Declared → Check Found
also f rule = rule >>= (λ d. pure (with_one f d))

abbrev pub all_found : Around → List s.Declaration → Check Found
all_found a ds = all_declared a 1 0 ds >>= (λ xs. pure (found_in xs))
