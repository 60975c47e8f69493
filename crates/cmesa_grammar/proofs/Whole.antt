-- Whole texts: the parser functions give each text its one answer.
use Rattle.std.proofs.Common.{◌≡◌, ℕ, zero, suc, ◌+◌, ◌-◌, ◌<◌, ◌≤◌, length, take, drop, true, List, [], ◌∷◌, ◌++◌, Option, Some, None, ◌⊎◌, inl, inr, refl, sym, ap, subst, ◌∙◌, arith, append_assoc, length-append}
use Rattle.std.proofs.Math.Seq.{take-append_seam, drop-append_seam}
use Rattle.mesa_lexer.specs.declared.token.Token.{Token}
use Rattle.token_cursor.specs.Parsing.{Why, Unexpected, TooDeep, Out, Got, Stop, pure}
use Rattle.cmesa_grammar.specs.declared.syntax.Config.{Config}
use Rattle.cmesa_grammar.specs.Grammar.{IsConfig, deep_config}
use Rattle.cmesa_grammar.specs.ReadConfigs as r
use Rattle.cmesa_grammar.specs.Answer.{ParsesConfiguration, Starts, TooDeepAt, IsShallow, UnexpectedAt, FaultAt, Answer, Tree, Fault, Answers, OneAnswer}
use Rattle.token_cursor.proofs.Exact.{Test, Rel, Free, Same, same, After, Sample, Keeps, Gets, Halts, Holds, Then, bind, first_none, same_front}
use Rattle.token_cursor.proofs.Leading.{Early, Leads, stand, onto, comp}
use Rattle.cmesa_grammar.proofs.Keep.{none, Config_at, config}
use Rattle.cmesa_grammar.proofs.Lead.{config_c}

abbrev pub every : Test
every kind = true

-- a configuration with nothing behind it
abbrev pub Text : Rel Config
Text ts x rest o = (rest ≡ []) × (d : IsConfig ts x []) × (deep_config r.limit d ≡ o)

ending : (x : Config) (ws : List Token) → After every [] ws → Then (Config_at r.limit) Text x ws x ws None
ending x [] e us o' d = (refl, d.0, d.1 ∙ sym (first_none o'))
ending x (u ∷ ws) (inl e) us o' d = absurd e
ending x (u ∷ ws) (inr e) us o' d = absurd (cc)

free_every : (ws : List Token) → Free every ws → Free none ws
free_every [] e = tt
free_every (u ∷ ws) e = absurd (cc)

end_sample : (x : Config) → Sample none every (Then (Config_at r.limit) Text x)
end_sample x = record { text = []; made = x; viable = λ ws e. (None, ending x ws (inr e), free_every ws e) }

end_keeps : (x : Config) → Keeps none every (Then (Config_at r.limit) Text x) (r.at_end x)
end_keeps x = record { holds = go; sample = end_sample x }
  where
    go : (ts : List Token) → Holds none every (Then (Config_at r.limit) Text x) (r.at_end x) ts (r.at_end x ts)
    go [] = record { front = []; splits = refl; reads = λ ws e. (ending x ws e, end_after ws e); again = λ ws e. end_again ws e }
      where
        end_after : (ws : List Token) → After every [] ws → After none [] ws
        end_after ws (inl e) = inl e
        end_after ws (inr e) = inr (free_every ws e)

        end_again : (ws : List Token) → Same [] ws → r.at_end x ws ≡ Got x ws
        end_again [] e = refl
        end_again (u ∷ us) e = absurd e
    go (t ∷ ts) = record { front = []; splits = refl; end = []; ends = tt; made = x; viable = λ ws e. (None, ending x ws (inr e), tt, inr (free_every ws e)); again = λ ws e. stop_again ws e }
      where
        stop_again : (ws : List Token) → Same (t ∷ ts) ws → r.at_end x ws ≡ Stop Unexpected ws
        stop_again [] e = absurd e
        stop_again (u ∷ us) e = refl

keeps : Keeps none every Text r.text
unfolding r.text
keeps = bind config end_keeps

-- what a text's reading says of the parser's answer
complete : (ts : List Token) (x : Config) (d : IsConfig ts x []) → Leads ts x [] (deep_config r.limit d) (λ y. pure y) (r.text ts)
unfolding r.text
complete ts x d = subst (λ o. Leads ts x [] o (λ y. pure y) (r.text ts)) (first_none (deep_config r.limit d)) (comp (onto r.at_end (config_c d)) (stand [] x (λ y. pure y)))

record Split (ts : List Token) (j : ℕ) : Type 0 where
  pub front : List Token
  pub token : Token
  pub back : List Token
  pub is : ts ≡ front ++ (token ∷ back)
  pub size : length front ≡ j

split : (ts : List Token) (j : ℕ) → j < length ts → Split ts j
split [] j h = absurd (omega arith)
split (t ∷ ts) zero h = record { front = []; token = t; back = ts; is = refl; size = refl }
split (t ∷ ts) (suc j) h = let s : Split ts j = split ts j (omega arith) in record { front = t ∷ s.front; token = s.token; back = s.back; is = ap (λ z. t ∷ z) s.is; size = ap suc s.size }

-- the tokens up to the one behind the front
upto : (front back : List Token) (t : Token) → take (suc (length front)) (front ++ (t ∷ back)) ≡ front ++ (t ∷ [])
upto [] back t = refl
upto (u ∷ front) back t = ap (λ z. u ∷ z) (upto front back t)

upto_more : (front back ws : List Token) (t : Token) → take (suc (length front)) (front ++ (t ∷ back)) ++ ws ≡ front ++ (t ∷ ws)
upto_more front back ws t = rw (upto front back t) (append_assoc front (t ∷ []) ws)

-- of two ways to none a list, the later one nones the earlier one's back
record Cut (a b p q : List Token) : Type 0 where
  pub mid : List Token
  pub front : b ≡ a ++ mid
  pub back : p ≡ mid ++ q

cut_at : (a b p q : List Token) → a ++ p ≡ b ++ q → length q ≤ length p → Cut a b p q
cut_at [] b p q e h = record { mid = b; front = refl; back = e }
cut_at (u ∷ a) [] p q e h = absurd (omega (arith, ap length e, length-append a p))
cut_at (u ∷ a) (v ∷ b) p q e h =
    let tails : a ++ p ≡ b ++ q = cc in
    let heads : u ≡ v = cc in
    let c : Cut a b p q = cut_at a b p q tails h in
    record { mid = c.mid; front = ap (λ z. v ∷ z) c.front ∙ ap (λ z. z ∷ a ++ c.mid) (sym heads); back = c.back }

none_some : (o : Option (List Token)) (u : List Token) → o ≡ None → o ≡ Some u → ⊥
none_some o u e f = absurd (cc)

abbrev stop_at : List Token → Out Config
stop_at a = Stop TooDeep a

stop_injective : (a b : List Token) → stop_at a ≡ stop_at b → a ≡ b
stop_injective a b e = cc

pub halted : (ts rest : List Token) (why : Why) → r.text ts ≡ Stop why rest → Halts none every Text r.text ts why rest
halted ts rest why e = subst (λ out. Holds none every Text r.text ts out) e (keeps.holds ts)

got : (ts rest : List Token) (x : Config) → r.text ts ≡ Got x rest → Gets none every Text r.text ts x rest
got ts rest x e = subst (λ out. Holds none every Text r.text ts out) e (keeps.holds ts)

record Stops (ts back : List Token) : Type 0 where
  pub at : List Token
  pub stops : r.text ts ≡ Stop TooDeep at
  pub early : length back ≤ length at

-- Where a text's reading has something too deep, the parser stops there or before, in each text that starts with the same tokens.
deep_front : (front back ws : List Token) (t : Token) (x : Config) (d : IsConfig (front ++ (t ∷ ws)) x []) → deep_config r.limit d ≡ Some (t ∷ ws) → Stops (front ++ (t ∷ back)) (t ∷ back)
deep_front front back ws t x d e = go (complete (front ++ (t ∷ ws)) x d).result
  where
    early : (at : List Token) → length (t ∷ ws) ≤ length at → Halts none every Text r.text (front ++ (t ∷ ws)) TooDeep at → Stops (front ++ (t ∷ back)) (t ∷ back)
    early at h g =
        let c : Cut g.front front at (t ∷ ws) = cut_at g.front front at (t ∷ ws) (sym g.splits) h in
        let same_next : Same at (c.mid ++ (t ∷ back)) = subst (λ z. Same z (c.mid ++ (t ∷ back))) (sym c.back) (same_front c.mid (t ∷ ws) (t ∷ back) refl) in
        record {
          at = c.mid ++ (t ∷ back);
          stops = ap (λ z. r.text (z ++ (t ∷ back))) c.front ∙ (ap r.text (append_assoc g.front c.mid (t ∷ back)) ∙ g.again (c.mid ++ (t ∷ back)) same_next);
          early = omega (arith, length-append c.mid (t ∷ back));
        }

    go : ((deep_config r.limit d ≡ None) × (r.text (front ++ (t ∷ ws)) ≡ Got x [])) ⊎ Early (front ++ (t ∷ ws)) [] (deep_config r.limit d) (r.text (front ++ (t ∷ ws))) → Stops (front ++ (t ∷ back)) (t ∷ back)
    go (inl p) = absurd (none_some (deep_config r.limit d) (t ∷ ws) p.0 e)
    go (inr p) = early p.at (p.by (t ∷ ws) e) (halted (front ++ (t ∷ ws)) p.at TooDeep p.stops)

record StopsBy (ts : List Token) (j : ℕ) : Type 0 where
  pub at : List Token
  pub stops : r.text ts ≡ Stop TooDeep at
  pub early : length ts ≤ length at + j

deep_there : (front back : List Token) (t : Token) → TooDeepAt (front ++ (t ∷ back)) (length front) → Stops (front ++ (t ∷ back)) (t ∷ back)
deep_there front back t deep =
    let at_front : (d : IsConfig (front ++ (t ∷ deep.0)) deep.1 []) × (deep_config r.limit d ≡ Some (drop (length front) (front ++ (t ∷ deep.0)))) =
    subst (λ z. (d : IsConfig z deep.1 []) × (deep_config r.limit d ≡ Some (drop (length front) z))) (upto_more front back deep.0 t) (deep.2, deep.3) in
    deep_front front back deep.0 t deep.1 at_front.0 (at_front.1 ∙ ap Some (drop-append_seam front (t ∷ deep.0)))

deep_here : (ts : List Token) (j : ℕ) → j < length ts → TooDeepAt ts j → StopsBy ts j
deep_here ts j h deep =
    let s : Split ts j = split ts j h in
    let moved : TooDeepAt (s.front ++ (s.token ∷ s.back)) (length s.front) = subst (λ z. TooDeepAt z (length s.front)) s.is (subst (λ z. TooDeepAt ts z) (sym s.size) deep) in
    let found : Stops (s.front ++ (s.token ∷ s.back)) (s.token ∷ s.back) = deep_there s.front s.back s.token moved in
    record {
      at = found.at;
      stops = subst (λ z. r.text z ≡ Stop TooDeep found.at) (sym s.is) found.stops;
      early = let early = found.early in let size = s.size in omega (arith, ap length s.is, length-append s.front (s.token ∷ s.back));
    }

never_read : (ts rest : List Token) (x : Config) → r.text ts ≡ Stop Unexpected rest → IsConfig ts x [] → ⊥
never_read ts rest x e d = go (complete ts x d).result
  where
    go : ((deep_config r.limit d ≡ None) × (r.text ts ≡ Got x [])) ⊎ Early ts [] (deep_config r.limit d) (r.text ts) → ⊥
    go (inl p) = absurd (cc (p.1, e))
    go (inr p) = absurd (cc (p.stops, e))

none_there : (front rest : List Token) → ((ws : List Token) → Same rest ws → r.text (front ++ ws) ≡ Stop Unexpected ws) → length front < length (front ++ rest) → Starts (take (suc (length front)) (front ++ rest)) → ⊥
none_there front [] again h st = let none : List Token = [] in absurd (omega (arith, length-append front none))
none_there front (t ∷ back) again h st = never_read (front ++ (t ∷ st.0)) (t ∷ st.0) st.1 (again (t ∷ st.0) refl) (subst (λ z. IsConfig z st.1 []) (upto_more front back st.0 t) st.2)

unexpected_front : (front rest end : List Token) (made : Config) → IsConfig (front ++ end) made [] → ((ws : List Token) → Same rest ws → r.text (front ++ ws) ≡ Stop Unexpected ws) → UnexpectedAt (front ++ rest) (length front)
unexpected_front front rest end made d again = record {
  within = omega (arith, length-append front rest);
  before = (end, made, subst (λ z. IsConfig (z ++ end) made []) (sym (take-append_seam front rest)) d);
  there = none_there front rest again;
  at_end = λ e x d. never_read (front ++ rest) rest x (again rest (same rest)) d;
  shallow = λ j h deep. let e = deep_here (front ++ rest) j h deep in absurd (cc (e.stops, again rest (same rest)));
}

pub unexpected : (ts rest : List Token) → r.text ts ≡ Stop Unexpected rest → UnexpectedAt ts (length ts - length rest)
unexpected ts rest e =
    let g = halted ts rest Unexpected e in
    let size : length g.front ≡ length ts - length rest = omega (arith, ap length g.splits, length-append g.front rest) in
    let v = g.viable [] tt in
    subst (λ z. UnexpectedAt ts z) size (subst (λ z. UnexpectedAt z (length g.front)) (sym g.splits) (unexpected_front g.front rest (g.end ++ []) g.made v.1.1 g.again))

there_deep : (front back ws : List Token) (t : Token) (x : Config) (d : IsConfig (front ++ (t ∷ ws)) x []) → deep_config r.limit d ≡ Some (t ∷ ws) → TooDeepAt (front ++ (t ∷ back)) (length front)
there_deep front back ws t x d e =
    let p = subst (λ z. (d : IsConfig z x []) × (deep_config r.limit d ≡ Some (drop (length front) z))) (sym (upto_more front back ws t)) (d, e ∙ ap Some (sym (drop-append_seam front (t ∷ ws)))) in
    (ws, x, p.0, p.1)

pub too_deep : (ts rest : List Token) → r.text ts ≡ Stop TooDeep rest → (length ts - length rest < length ts) × TooDeepAt ts (length ts - length rest) × IsShallow ts (length ts - length rest)
too_deep ts rest e =
    let g = halted ts rest TooDeep e in
    let h = g.ends in
    let size : length g.front ≡ length ts - length rest = omega (arith, ap length g.splits, length-append g.front rest) in
    let whole : ts ≡ g.front ++ (h.token ∷ h.back) = g.splits ∙ ap (λ z. g.front ++ z) h.here in
    let v = g.viable [] tt in
    let at : g.end ++ [] ≡ h.token ∷ (h.more ++ []) = ap (λ z. z ++ []) h.there in
    let read = subst (λ z. (d : IsConfig (g.front ++ z) g.made []) × (deep_config r.limit d ≡ Some z)) at (v.1.1, v.1.2 ∙ v.2) in (
      omega (arith, ap length h.here, ap length g.splits, length-append g.front rest),
      subst (λ z. TooDeepAt ts z) size (subst (λ z. TooDeepAt z (length g.front)) (sym whole) (there_deep g.front h.back (h.more ++ []) h.token g.made read.0 read.1)),
      λ j k deep. let s = deep_here ts j (omega arith) deep in let same_place : s.at ≡ rest = stop_injective s.at rest (sym s.stops ∙ e) in let early = s.early in omega (arith, ap length same_place),
    )

pub only : (ts : List Token) (x : Config) → ParsesConfiguration ts x → r.text ts ≡ Got x []
only ts x p = go (complete ts x p.0).result
  where
    go : ((deep_config r.limit p.0 ≡ None) × (r.text ts ≡ Got x [])) ⊎ Early ts [] (deep_config r.limit p.0) (r.text ts) → r.text ts ≡ Got x []
    go (inl q) = q.1
    go (inr q) = let d = too_deep ts q.at q.stops in absurd (p.1 _ d.0 d.1)

pub found : (ts rest : List Token) (x : Config) → r.text ts ≡ Got x rest → (rest ≡ []) × ParsesConfiguration ts x
found ts rest x e =
    let g = got ts rest x e in
    let m = (g.reads rest (inl (same rest))).0 in
    (m.0, (subst (λ z. IsConfig z x []) (sym g.splits) m.1, λ j h deep. let s = deep_here ts j h deep in absurd (cc (s.stops, e))))

-- ---- exactly one answer

compare : (i j : ℕ) → (i < j) ⊎ ((i ≡ j) ⊎ (j < i))
compare zero zero = inr (inl refl)
compare zero (suc j) = inl (omega arith)
compare (suc i) zero = inr (inr (omega arith))
compare (suc i) (suc j) = go (compare i j)
  where
    go : (i < j) ⊎ ((i ≡ j) ⊎ (j < i)) → (suc i < suc j) ⊎ ((suc i ≡ suc j) ⊎ (suc j < suc i))
    go (inl h) = inl (omega arith)
    go (inr (inl h)) = inr (inl (ap suc h))
    go (inr (inr h)) = inr (inr (omega arith))

take_parts : (i j : ℕ) (ts : List Token) → i ≤ j → take i ts ++ drop i (take j ts) ≡ take j ts
take_parts zero j ts h = refl
take_parts (suc i) zero ts h = absurd (omega arith)
take_parts (suc i) (suc j) [] h = refl
take_parts (suc i) (suc j) (t ∷ ts) h = ap (λ z. t ∷ z) (take_parts i j ts (omega arith))

take_drops : (i : ℕ) (ts : List Token) → take i ts ++ drop i ts ≡ ts
take_drops zero ts = refl
take_drops (suc i) [] = refl
take_drops (suc i) (t ∷ ts) = ap (λ z. t ∷ z) (take_drops i ts)

starts_sooner : (ts : List Token) (i j : ℕ) → i ≤ j → Starts (take j ts) → Starts (take i ts)
starts_sooner ts i j h s = (drop i (take j ts) ++ s.0, s.1, subst (λ z. IsConfig z s.1 []) (sym (sym (append_assoc (take i ts) (drop i (take j ts)) s.0) ∙ ap (λ z. z ++ s.0) (take_parts i j ts h))) s.2)

text_starts : (ts : List Token) (i : ℕ) (x : Config) → IsConfig ts x [] → Starts (take i ts)
text_starts ts i x d = (drop i ts, x, subst (λ z. IsConfig z x []) (sym (take_drops i ts)) d)

-- two places where no text goes on are one
unexpected_once : (ts : List Token) (i j : ℕ) → UnexpectedAt ts i → UnexpectedAt ts j → i ≡ j
unexpected_once ts i j a b = go (compare i j)
  where
    go : (i < j) ⊎ ((i ≡ j) ⊎ (j < i)) → i ≡ j
    go (inl h) = let within = b.within in absurd (a.there (omega arith) (starts_sooner ts (suc i) j (omega arith) b.before))
    go (inr (inl h)) = h
    go (inr (inr h)) = let within = a.within in absurd (b.there (omega arith) (starts_sooner ts (suc j) i (omega arith) a.before))

deep_once : (ts : List Token) (i j : ℕ) → FaultAt ts TooDeep i → FaultAt ts TooDeep j → i ≡ j
deep_once ts i j a b = go (compare i j)
  where
    go : (i < j) ⊎ ((i ≡ j) ⊎ (j < i)) → i ≡ j
    go (inl h) = absurd (b.2 i h a.1)
    go (inr (inl h)) = h
    go (inr (inr h)) = absurd (a.2 j h b.1)

no_fault : (ts : List Token) (x : Config) (why : Why) (i : ℕ) → ParsesConfiguration ts x → FaultAt ts why i → ⊥
no_fault ts x Unexpected i p a = go (compare i (length ts))
  where
    go : (i < length ts) ⊎ ((i ≡ length ts) ⊎ (length ts < i)) → ⊥
    go (inl h) = a.there h (text_starts ts (suc i) x p.0)
    go (inr (inl h)) = a.at_end h x p.0
    go (inr (inr h)) = let within = a.within in absurd (omega arith)
no_fault ts x TooDeep i p a = p.1 i a.0 a.1

module _ (ts : List Token) where
  by_tree : (x : Config) (rest : List Token) → r.text ts ≡ Got x rest → (other : Answer) → Answers ts other → other ≡ Tree x
  by_tree x rest e (Tree y) p = let same : y ≡ x = cc (only ts y p, e) in ap Tree same
  by_tree x rest e (Fault why i) a = absurd (no_fault ts x why i (found ts rest x e).1 a)

  by_unexpected : (rest : List Token) → r.text ts ≡ Stop Unexpected rest → (other : Answer) → Answers ts other → other ≡ Fault Unexpected (length ts - length rest)
  by_unexpected rest e (Tree y) p = absurd (cc (only ts y p, e))
  by_unexpected rest e (Fault Unexpected i) a = ap (λ z. Fault Unexpected z) (unexpected_once ts i (length ts - length rest) a (unexpected ts rest e))
  by_unexpected rest e (Fault TooDeep i) a = absurd ((unexpected ts rest e).shallow i a.0 a.1)

  by_deep : (rest : List Token) → r.text ts ≡ Stop TooDeep rest → (other : Answer) → Answers ts other → other ≡ Fault TooDeep (length ts - length rest)
  by_deep rest e (Tree y) p = absurd (cc (only ts y p, e))
  by_deep rest e (Fault Unexpected i) a = let d = too_deep ts rest e in absurd (a.shallow (length ts - length rest) d.0 d.1)
  by_deep rest e (Fault TooDeep i) a = ap (λ z. Fault TooDeep z) (deep_once ts i (length ts - length rest) a (too_deep ts rest e))

  by_out : (out : Out Config) → r.text ts ≡ out → OneAnswer ts
  by_out (Got x rest) e = record { answer = Tree x; holds = (found ts rest x e).1; only = by_tree x rest e }
  by_out (Stop Unexpected rest) e = record { answer = Fault Unexpected (length ts - length rest); holds = unexpected ts rest e; only = by_unexpected rest e }
  by_out (Stop TooDeep rest) e = record { answer = Fault TooDeep (length ts - length rest); holds = too_deep ts rest e; only = by_deep rest e }

  pub one_answer : OneAnswer ts
  one_answer = by_out (r.text ts) refl
