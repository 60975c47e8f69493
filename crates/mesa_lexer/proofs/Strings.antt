-- A string, or the beginning of one, stands where a quote does.
use Rattle.std.proofs.Common.{◌≡◌, ℕ, zero, suc, ◌+◌, ◌-◌, ◌<◌, ◌≤◌, Bool, true, false, ◌&&◌, ◌==◌, not, cond, List, [], ◌∷◌, ◌++◌, length, take, drop, Option, Some, None, arith, refl, sym, ap, subst, ◌∙◌, codes, nat_lt, add-one, ◌⊎◌, inl, inr}
use Rattle.std.specs.List.{list_all}
use Rattle.std.proofs.lemmas.Bool.{and_parts, ltb-true, ltb-false, ne_eqb, eqb-true, not_from_false, eq-eqb, cases_lt}
use Rattle.std.proofs.lemmas.List.{append-nil, length-take-le, length-drop, take-take}
use Rattle.std.proofs.Math.Seq.{take-add}
use Rattle.mesa_base.specs.Name.{is_letter, is_digit, is_letter_or_digit}
use Rattle.mesa_lexer.specs.Blanks.{begins_with}
use Rattle.mesa_lexer.specs.Marks.{mark_of, marks}
use Rattle.mesa_lexer.specs.Forms.{Form, name, word, decimal, decimal_d, octal_b, octal_c, character, arrow_character, text, unended_text, mark, Writes, plain, quote, an_arrow, Inside, empty, more, is_plain, Lexeme, Whole, Unended, is_identifier, one_or_more, Longest}
use Rattle.mesa_lexer.specs.Tokens.{NoGap}
use Rattle.mesa_lexer.specs.Lexed.{Stands, begins_with_arrow, item_at, Runs, texted, ended}
use Rattle.mesa_lexer.specs.declared.mark.Mark.{Mark}
use Rattle.mesa_lexer.specs.declared.token.Kind.TheVariants as k
use Rattle.mesa_lexer.specs.declared.lexed.Lexed.TheVariants.{Token, Stray, Open, TooLong}
use Rattle.mesa_lexer.proofs.Rows.{spelled_passes}
use Rattle.mesa_lexer.proofs.Decoding.{octal_list}
use Rattle.std.proofs.lemmas.List.{take_at, drop_at, length-append, append_assoc, take-append-drop, drop-drop, append_cancel_left}
use Rattle.mesa_lexer.proofs.Longer.{no_gap}

-- what writes a byte is found at the front
pub writes_item : {item : List ℕ} {b : ℕ} → Writes item b → (rest : List ℕ) → item_at (item ++ rest) ≡ Some (length item, b)
writes_item (plain held) rest = rw held refl
writes_item quote rest = refl
writes_item an_arrow rest = refl

-- what is found at the front writes a byte
pub item_writes : (rest : List ℕ) (t : ℕ × ℕ) → item_at rest ≡ Some t → Writes (take t.0 rest) t.1 × (0 < t.0) × (t.0 ≤ length rest)
item_writes [] t found = cc
item_writes (b ∷ rest) t found = by_plain (is_plain b) refl
  where
    Goal : ℕ × ℕ → Type 0
    Goal t = Writes (take t.0 (b ∷ rest)) t.1 × (0 < t.0) × (t.0 ≤ length (b ∷ rest))

    by_arrow : (a : Bool) → begins_with_arrow (b ∷ rest) ≡ a → cond a (Some (3, 95)) None ≡ Some t → Goal t
    by_arrow false e f = cc
    by_arrow true e f = let same : (3, 95) ≡ t = cc in subst Goal same (arrow_there rest e)
      where
        arrow_there : (rest : List ℕ) → begins_with_arrow (b ∷ rest) ≡ true → Writes (take 3 (b ∷ rest)) 95 × (0 < 3) × (3 ≤ length (b ∷ rest))
        arrow_there [] e = cc
        arrow_there (c ∷ []) e = cc
        arrow_there (c ∷ d ∷ rest) e =
            let parts = and_parts (b == 226) ((c == 134) && (d == 144)) e in
            let others = and_parts (c == 134) (d == 144) parts.1 in
            (rw (eqb-true b 226 parts.0) (rw (eqb-true c 134 others.0) (rw (eqb-true d 144 others.1) an_arrow)), omega arith, omega arith)

    by_quote : (q : Bool) → ((b == 34) && begins_with 34 rest) ≡ q → cond q (Some (2, 34)) (cond (begins_with_arrow (b ∷ rest)) (Some (3, 95)) None) ≡ Some t → Goal t
    by_quote false e f = by_arrow (begins_with_arrow (b ∷ rest)) refl f
    by_quote true e f = let same : (2, 34) ≡ t = cc in subst Goal same (quote_there rest e)
      where
        quote_there : (rest : List ℕ) → ((b == 34) && begins_with 34 rest) ≡ true → Writes (take 2 (b ∷ rest)) 34 × (0 < 2) × (2 ≤ length (b ∷ rest))
        quote_there [] e = let parts = and_parts (b == 34) false e in cc
        quote_there (c ∷ rest) e =
            let parts = and_parts (b == 34) (c == 34) e in
            (rw (eqb-true b 34 parts.0) (rw (eqb-true c 34 parts.1) quote), omega arith, omega arith)

    by_plain : (p : Bool) → is_plain b ≡ p → Goal t
    by_plain true e = let f = rw e at found in let same : (1, b) ≡ t = cc in subst Goal same (plain e, omega arith, omega arith)
    by_plain false e = by_quote ((b == 34) && begins_with 34 rest) refl (rw e at found)

-- the inside of a string, taken apart at the front
inside_head : {xs w : List ℕ} → Inside xs w → (t : ℕ × ℕ) → item_at xs ≡ Some t → (v : List ℕ) × Inside (drop t.0 xs) v × (w ≡ t.1 ∷ v)
inside_head empty t found = cc
inside_head (more {item = item} {bytes = bytes} {value = value} {b = b} writes inside) t found =
    let same : (length item, b) ≡ t = (let here = writes_item writes bytes in cc) in
    subst (λ (t : ℕ × ℕ). (v : List ℕ) × Inside (drop t.0 (item ++ bytes)) v × (b ∷ value ≡ t.1 ∷ v)) same
    (value, rw (drop_at item bytes (length item) refl) inside, refl)

-- where the whole and its front are insides, so is the rest
pub inside_rest : {a v : List ℕ} → Inside a v → (c w : List ℕ) → Inside (a ++ c) w → (u : List ℕ) × Inside c u × (w ≡ v ++ u)
inside_rest empty c w whole = (w, whole, refl)
inside_rest (more {item = item} {bytes = bytes} {value = value} {b = b} writes inside) c w whole =
    let whole' : Inside (item ++ (bytes ++ c)) w = rw append_assoc at whole in
    let head = inside_head whole' (length item, b) (writes_item writes (bytes ++ c)) in
    let tail : Inside (bytes ++ c) head.0 = rw (drop_at item (bytes ++ c) (length item) refl) at head.1 in
    let rest = inside_rest inside c head.0 tail in
    (rest.0, rest.1, head.2 ∙ ap (λ l. b ∷ l) rest.2)

-- one more byte at the end
pub inside_push : {a v item : List ℕ} {b : ℕ} → Inside a v → Writes item b → Inside (a ++ item) (v ++ b ∷ [])
inside_push {item = item} empty writes = rw append-nil at (more writes empty)
inside_push {item = item} (more {item = first} {bytes = bytes} first_writes inside) writes =
    rw append_assoc (more first_writes (inside_push inside writes))

pub inside_stops : {xs w : List ℕ} → Inside xs w → item_at xs ≡ None → xs ≡ []
inside_stops empty none = refl
inside_stops (more {bytes = bytes} writes inside) none = let some = writes_item writes bytes in cc

-- what is found in fewer bytes is found in all
take_stops : (xs : List ℕ) (j : ℕ) → item_at xs ≡ None → item_at (take j xs) ≡ None
take_stops xs j none = go (item_at (take j xs)) refl
  where
    go : (o : Option (ℕ × ℕ)) → item_at (take j xs) ≡ o → o ≡ None
    go None e = refl
    go (Some t) e =
        let writes = item_writes (take j xs) t e in
        let some = writes_item writes.0 (drop t.0 (take j xs) ++ drop j xs) in
        let all : take t.0 (take j xs) ++ (drop t.0 (take j xs) ++ drop j xs) ≡ xs =
        sym (append_assoc (take t.0 (take j xs)) (drop t.0 (take j xs)) (drop j xs))
        ∙ ap (λ l. l ++ drop j xs) (take-append-drop t.0 (take j xs))
        ∙ take-append-drop j xs in
        let some' = rw all at some in
        cc

pub no_more : {rest : List ℕ} {n : ℕ} {value : List ℕ} → Runs rest n value → (m : ℕ) (w : List ℕ) → n < m → m ≤ length rest → Inside (take m rest) w → ⊥
no_more {rest} {n} {value} runs m w over there inside =
    let j : ℕ = m - n in
    let m_is : m ≡ n + j = omega arith in
    let split : take m rest ≡ take n rest ++ take j (drop n rest) = ap (λ l. take l rest) m_is ∙ take-add n j rest in
    let tail = inside_rest runs.inside (take j (drop n rest)) w (rw split at inside) in
    let none = inside_stops tail.1 (take_stops (drop n rest) j runs.ends) in
    let zero_long = ap length none in
    let there' : j ≤ length (drop n rest) = omega (arith, length-drop n rest) in
    absurd (omega (arith, length-take-le j (drop n rest) there'))

-- a form that begins with a quote
pub data Quoted : List ℕ → Lexeme → Type 0 where
  closed : {bytes value : List ℕ} → Inside bytes value → Quoted (34 ∷ (bytes ++ 34 ∷ [])) (Whole (k.Text value))
  opened : {bytes value : List ℕ} → Inside bytes value → Quoted (34 ∷ bytes) Unended

abbrev pub unquoted : List ℕ → Bool
unquoted [] = true
unquoted (b ∷ bytes) = not (b == 34)

identifier_unquoted : (bytes : List ℕ) → is_identifier bytes ≡ true → unquoted bytes ≡ true
identifier_unquoted [] all = refl
identifier_unquoted (b ∷ bytes) all =
    let parts = and_parts (is_letter b) (is_letter_or_digit b && list_all is_letter_or_digit bytes) all in
    not_from_false (b == 34) (ne_eqb b 34 (λ e. let h = rw e at parts.0 in cc))

digits_unquoted : (bytes rest : List ℕ) → one_or_more is_digit bytes ≡ true → unquoted (bytes ++ rest) ≡ true
digits_unquoted [] rest all = cc
digits_unquoted (b ∷ bytes) rest all =
    let parts = and_parts (is_digit b) (list_all is_digit bytes) all in
    not_from_false (b == 34) (ne_eqb b 34 (λ e. let h = rw e at parts.0 in cc))

mark_unquoted : (bytes : List ℕ) (m : Mark) → mark_of bytes ≡ Some m → unquoted bytes ≡ true
unfolding mark_of marks
mark_unquoted bytes m found = spelled_passes unquoted marks bytes m refl found

pub quoted : {bytes : List ℕ} {y : Lexeme} → Form bytes y → unquoted bytes ≡ false → Quoted bytes y
quoted (name {bytes = bs} all none) q = let h = identifier_unquoted bs all in cc
quoted (word {bytes = bs} all found) q = let h = identifier_unquoted bs all in cc
quoted (decimal {digits = ds} all) q = let h = digits_unquoted ds [] all in let h' = rw append-nil at h in cc
quoted (decimal_d ds all) q = let h = digits_unquoted ds (codes "D") all in cc
quoted (octal_b ds all) q = let h = digits_unquoted ds (codes "B") (octal_list ds all).0 in cc
quoted (octal_c ds all) q = let h = digits_unquoted ds (codes "C") (octal_list ds all).0 in cc
quoted (character b) q = cc
quoted arrow_character q = cc
quoted (text inside) q = closed inside
quoted (unended_text inside) q = opened inside
quoted (mark {bytes = bs} {m = m} found) q = let h = mark_unquoted bs m found in cc

-- where the last byte taken is the quote behind the inside
record ClosesAt (rest : List ℕ) (m : ℕ) (inner : List ℕ) : Type 0 where
  counts : m ≡ length inner + 1
  inner_is : take (length inner) rest ≡ inner
  next_is : begins_with 34 (drop (length inner) rest) ≡ true

one_quote : (xs : List ℕ) → take 1 xs ≡ 34 ∷ [] → begins_with 34 xs ≡ true
one_quote [] e = cc
one_quote (x ∷ xs) e = eq-eqb x 34 (let e' : x ∷ [] ≡ 34 ∷ [] = e in cc)

closes_at : (rest : List ℕ) (m : ℕ) (inner : List ℕ) → m ≤ length rest → take m rest ≡ inner ++ 34 ∷ [] → ClosesAt rest m inner
closes_at rest m inner there e =
    let i : ℕ = length inner in
    let m_is : m ≡ length inner + 1 = (let l = ap length e in omega (arith, length-take-le m rest there, length-append inner (34 ∷ []), l)) in
    let low : length inner ≤ m = omega arith in
    let front : take (length inner) rest ≡ inner =
    sym (take-take (length inner) m rest low) ∙ ap (take (length inner)) e ∙ take_at inner (34 ∷ []) (length inner) refl in
    let whole : inner ++ take 1 (drop (length inner) rest) ≡ inner ++ 34 ∷ [] =
    ap (λ l. l ++ take 1 (drop (length inner) rest)) (sym front) ∙ sym (take-add (length inner) 1 rest) ∙ ap (λ l. take l rest) (sym m_is) ∙ e in
    record { counts = m_is; inner_is = front; next_is = one_quote (drop (length inner) rest) (append_cancel_left inner (take 1 (drop (length inner) rest)) (34 ∷ []) whole) }

-- no more bytes than the inside and its quote are a form
past_closed : {rest : List ℕ} {n : ℕ} {value : List ℕ} → Runs rest n value → (m : ℕ) (tail : List ℕ) (y : Lexeme) → n < m → m ≤ length rest → take m rest ≡ tail → Quoted (34 ∷ tail) y
    → (m ≡ n + 1) × (begins_with 34 (drop n rest) ≡ true)
past_closed {rest} {n} {value} runs m tail y over there e form = go (34 ∷ tail) y form refl
  where
    go : (bytes : List ℕ) (y : Lexeme) → Quoted bytes y → bytes ≡ 34 ∷ tail → (m ≡ n + 1) × (begins_with 34 (drop n rest) ≡ true)
    go bytes y (opened {bytes = inner} {value = w} inside) same =
        let same' : inner ≡ tail = cc in
        absurd (no_more runs m w over there (subst (λ l. Inside l w) (same' ∙ sym e) inside))
    go bytes y (closed {bytes = inner} {value = w} inside) same =
        let same' : inner ++ 34 ∷ [] ≡ tail = cc in
        let at = closes_at rest m inner there (e ∙ sym same') in
        let inside' : Inside (take (length inner) rest) w = rw at.inner_is inside in
        split (cases_lt n (length inner)) at inside'
      where
        split : (n < length inner) ⊎ (length inner ≤ n) → ClosesAt rest m inner → Inside (take (length inner) rest) w → (m ≡ n + 1) × (begins_with 34 (drop n rest) ≡ true)
        split (inl less) at inside' = absurd (let c = at.counts in no_more runs (length inner) w less (omega arith) inside')
        split (inr most) at inside' =
            let c = at.counts in
            let same_n : length inner ≡ n = omega arith in
            (omega arith, rw same_n at at.next_is)

text_gapless : (rest : List ℕ) → NoGap (34 ∷ rest)
text_gapless rest = no_gap 34 rest refl refl

longest_open : {rest : List ℕ} {n : ℕ} {value : List ℕ} → Runs rest n value → begins_with 34 (drop n rest) ≡ false → Longest (34 ∷ rest) (suc n) Unended
longest_open {rest} {n} {value} runs stops = record { is_there = (let t = runs.is_there in omega arith); is_form = unended_text runs.inside; no_longer = longer }
  where
    longer : (m : ℕ) (other : Lexeme) → suc n < m → m ≤ length (34 ∷ rest) → ¬ Form (take m (34 ∷ rest)) other
    longer zero other over there form = absurd (omega arith)
    longer (suc m) other over there form =
        let both = past_closed runs m (take m rest) other (omega arith) (omega arith) refl (quoted form refl) in
        let next = both.1 in
        cc

longest_closed : {rest : List ℕ} {n : ℕ} {value : List ℕ} → Runs rest n value → begins_with 34 (drop n rest) ≡ true → Longest (34 ∷ rest) (suc (suc n)) (Whole (k.Text value))
longest_closed {rest} {n} {value} runs closes = record { is_there = there_is; is_form = form; no_longer = longer }
  where
    one : (xs : List ℕ) → begins_with 34 xs ≡ true → (take 1 xs ≡ 34 ∷ []) × (0 < length xs)
    one [] e = cc
    one (x ∷ xs) e = (ap (λ l. l ∷ []) (eqb-true x 34 e), omega arith)

    there_is : suc (suc n) ≤ length (34 ∷ rest)
    there_is = let some = (one (drop n rest) closes).1 in let t = runs.is_there in omega (arith, length-drop n rest)

    taken : take (suc n) rest ≡ take n rest ++ 34 ∷ []
    taken = let s : suc n ≡ n + 1 = omega arith in ap (λ l. take l rest) s ∙ take-add n 1 rest ∙ ap (λ l. take n rest ++ l) (one (drop n rest) closes).0

    form : Form (34 ∷ take (suc n) rest) (Whole (k.Text value))
    form = subst (λ l. Form (34 ∷ l) (Whole (k.Text value))) (sym taken) (text runs.inside)

    longer : (m : ℕ) (other : Lexeme) → suc (suc n) < m → m ≤ length (34 ∷ rest) → ¬ Form (take m (34 ∷ rest)) other
    longer zero other over there form = absurd (omega arith)
    longer (suc m) other over there form =
        let both = past_closed runs m (take m rest) other (omega arith) (omega arith) refl (quoted form refl) in
        let next = both.0 in
        absurd (omega arith)

texted_stands : (rest : List ℕ) (n : ℕ) (value : List ℕ) → NoGap rest → Longest rest n (Whole (k.Text value)) → Stands rest (texted n value)
texted_stands rest n value gapless long = go (nat_lt 32767 (length value)) refl
  where
    go : (b : Bool) → nat_lt 32767 (length value) ≡ b → Stands rest (cond b TooLong (Token n (k.Text value)))
    go true over = (gapless, record { n = n; kind = k.Text value; longest = long; passed = ltb-true 32767 (length value) over })
    go false over = record { no_gap = gapless; longest = long; not_large = λ h. h; not_long = λ h. let low = ltb-false 32767 (length value) over in absurd (omega arith) }

pub text_stands : {rest : List ℕ} {n : ℕ} {value : List ℕ} → Runs rest n value → Stands (34 ∷ rest) (ended rest n value)
text_stands {rest} {n} {value} runs = by_quote (begins_with 34 (drop n rest)) refl
  where
    by_end : begins_with 34 (drop n rest) ≡ false → (b : Bool) → nat_lt n (length rest) ≡ b → Stands (34 ∷ rest) (cond b (Stray (n + 1)) Open)
    by_end stops true less = (text_gapless rest, rw add-one (longest_open runs stops), let l = ltb-true n (length rest) less in omega arith)
    by_end stops false all =
        let same : n ≡ length rest = (let l = ltb-false n (length rest) all in let t = runs.is_there in omega arith) in
        (text_gapless rest, rw (sym same) (longest_open runs stops))

    by_quote : (q : Bool) → begins_with 34 (drop n rest) ≡ q → Stands (34 ∷ rest) (cond q (texted (n + 2) value) (cond (nat_lt n (length rest)) (Stray (n + 1)) Open))
    by_quote true closes =
        let two : n + 2 ≡ suc (suc n) = omega arith in
        rw two (texted_stands (34 ∷ rest) (suc (suc n)) value (text_gapless rest) (longest_closed runs closes))
    by_quote false stops = by_end stops (nat_lt n (length rest)) refl

-- each string's inside goes on to some place
pub runs_somewhere : (fuel : ℕ) (rest : List ℕ) → length rest ≤ fuel → (n : ℕ) × ((value : List ℕ) × Runs rest n value)
runs_somewhere zero [] short = (0, ([], record { is_there = omega arith; inside = empty; ends = refl }))
runs_somewhere zero (b ∷ rest) short = absurd (omega arith)
runs_somewhere (suc fuel) rest short = go (item_at rest) refl (λ (w : ℕ) (low : length (drop w rest) ≤ fuel). runs_somewhere fuel (drop w rest) low)
  where
    go : (o : Option (ℕ × ℕ)) → item_at rest ≡ o → ((w : ℕ) → length (drop w rest) ≤ fuel → (n : ℕ) × ((value : List ℕ) × Runs (drop w rest) n value))
        → (n : ℕ) × ((value : List ℕ) × Runs rest n value)
    go None e later = (0, ([], record { is_there = omega arith; inside = empty; ends = e }))
    go (Some t) e later =
        let writes = item_writes rest t e in
        let low : length (drop t.0 rest) ≤ fuel = (let a = writes.1 in let b = writes.2 in omega (arith, length-drop t.0 rest)) in
        let tail = later t.0 low in
        let runs = tail.1.1 in
        let there = runs.is_there in
        let in_rest = writes.2 in (
          t.0 + tail.0,
          (
            t.1 ∷ tail.1.0,
            record {
              is_there = omega (arith, length-drop t.0 rest);
              inside = rw (take-add t.0 tail.0 rest) (more writes.0 runs.inside);
              ends = ap item_at (sym (drop-drop tail.0 t.0 rest)) ∙ runs.ends;
            },
          ),
        )

-- one more byte of the value, and the inside is as much longer
pub inside_more : (rest : List ℕ) (at : ℕ) (value : List ℕ) (t : ℕ × ℕ) → at ≤ length rest → Inside (take at rest) value → item_at (drop at rest) ≡ Some t
    → (at + t.0 ≤ length rest) × Inside (take (at + t.0) rest) (value ++ t.1 ∷ [])
inside_more rest at value t there inside found =
    let writes = item_writes (drop at rest) t found in
    let within = writes.2 in
    (omega (arith, length-drop at rest), rw (take-add at t.0 rest) (inside_push inside writes.0))
