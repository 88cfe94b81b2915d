-- Calls, one after another.
use Rattle.std.proofs.Common.{◌≡◌, ℕ, ◌+◌, ◌<◌, ◌≤◌, List, [], ◌∷◌, ◌++◌, length, get_or, take, drop, set, Some, sym, ap, ◌∙◌, subst, ap₂, arith}
use Rattle.std.proofs.lemmas.List.{append-nil, append_assoc, drop_all, drop_more, drop-set-lt, length-set, take_all, take_more_set}
use Rattle.packed.specs.declared.element.Element
use Rattle.column.specs.Putting.{putting}
use Rattle.column.specs.States.{DecoderState, EncoderState}
use Rattle.column.specs.Taking.{after_taking}
use Rattle.column.specs.Trips.{patterns, after_call, after_calls, left_after}
use Rattle.column.specs.Working.{Put, Take, put_of, puts_of, puts_answered, taken_from, answer_of, cells_by, cells_after, takes_answered, decoder_after}
use Rattle.column.specs.declared.putting.PutList.{PutList}
use Rattle.column.specs.declared.working.TakeAnswer.{TakeAnswer}

-- ---- a list that is walked and written over, one element after another

-- the first i elements were written over, the others stand as before
pub record Walked {A : Type 0} (before now : List A) (i : ℕ) : Type 0 where
  pub rest : drop i now ≡ drop i before
  pub long : length now ≡ length before

module _ {A : Type 0} (before now : List A) (i : ℕ) (on : Walked before now i) (inside : i < length now) where
  inside-before : i < length before
  inside-before = subst (λ n. i < n) on.long inside

  both : (d : A) → get_or now i d ∷ drop (i + 1) now ≡ get_or before i d ∷ drop (i + 1) before
  both d = sym (drop_more now i d inside) ∙ on.rest ∙ drop_more before i d inside-before

  same-element : (d : A) → get_or now i d ≡ get_or before i d
  same-element d = ap (λ xs. get_or xs 0 d) (both d)

  -- what is still to come, by its first element
  pub drop-walked : (d : A) → drop i before ≡ get_or now i d ∷ drop (i + 1) before
  drop-walked d = drop_more before i d inside-before ∙ ap (λ x. x ∷ drop (i + 1) before) (sym (same-element d))

  pub walked-more : (y : A) → Walked before (set now i y) (i + 1)
  walked-more y = record {
    rest = drop-set-lt (i + 1) now i y (omega arith) ∙ ap (drop 1) (both y);
    long = length-set now i y ∙ on.long;
  }

-- ---- puts

-- the first i calls are made and answered: the encoder stands as t, and the calls as now
pub record PutsWorked {E : Type 0} (e : Element.Ghosts E) (values : List E) (need : ℕ → List ℕ → ℕ) (s : EncoderState) (calls : List (Put E)) (i : ℕ) (t : EncoderState) (now : List (Put E)) : Type 0 where
  pub answers : puts_answered e values need s calls ≡ take i now ++ puts_answered e values need t (drop i calls)
  pub state : after_calls need s (puts_of e values calls) ≡ after_calls need t (puts_of e values (drop i calls))
  pub walked : Walked calls now i

module _ {E : Type 0} (e : Element.Ghosts E) (values : List E) (need : ℕ → List ℕ → ℕ) (s : EncoderState) (calls : List (Put E))
    (i : ℕ) (t : EncoderState) (now : List (Put E)) (on : PutsWorked e values need s calls i t now) where
  pub puts-more : (d y : Put E) (a : PutList) (t' : EncoderState) → i < length now → y ≡ record { call = (get_or now i d).call; answer = Some a }
      → a ≡ putting need t (patterns (put_of e values (get_or now i d).call))
      → t' ≡ after_call need t (put_of e values (get_or now i d).call)
      → PutsWorked e values need s calls (i + 1) t' (set now i y)
  unfolding puts_answered after_calls
  puts-more d y a t' inside is answer state =
      let c = get_or now i d in
      let others = drop (i + 1) calls in
      let walk = drop-walked calls now i on.walked inside d in
      record {
        answers =
            on.answers
            ∙ ap (λ xs. take i now ++ puts_answered e values need t xs) walk
            ∙ ap₂ (λ (x : Put E) (z : EncoderState). take i now ++ x ∷ puts_answered e values need z others) (ap (λ (x : PutList). record { call = c.call; answer = Some x }) (sym answer) ∙ sym is) (sym state)
            ∙ sym (append_assoc (take i now) (y ∷ []) (puts_answered e values need t' others))
            ∙ ap (λ xs. xs ++ puts_answered e values need t' others) (sym (take_more_set now i y inside));
        state =
            on.state
            ∙ ap (λ xs. after_calls need t (puts_of e values xs)) walk
            ∙ ap (λ z. after_calls need z (puts_of e values others)) (sym state);
        walked = walked-more calls now i on.walked inside y;
      }

  pub puts-all : length calls ≤ i → (now ≡ puts_answered e values need s calls) × (t ≡ after_calls need s (puts_of e values calls))
  unfolding puts_answered after_calls
  puts-all all =
      let none = drop_all i calls all in (
        sym (on.answers ∙ ap (λ xs. take i now ++ puts_answered e values need t xs) none ∙ append-nil (take i now) ∙ take_all i now (subst (λ n. n ≤ i) (sym on.walked.long) all)),
        sym (on.state ∙ ap (λ xs. after_calls need t (puts_of e values xs)) none),
      )

-- ---- takes

-- the first i calls are made and answered: the decoder stands as t, and the cells and the calls as now
pub record TakesWorked {E : Type 0} (e : Element.Ghosts E) (n : ℕ) (d : DecoderState) (cells : List E) (calls : List (Take E)) (i : ℕ) (t : DecoderState) (cells-now : List E) (now : List (Take E)) : Type 0 where
  pub answers : takes_answered e n d calls ≡ take i now ++ takes_answered e n t (drop i calls)
  pub cells_are : cells_after e n d cells calls ≡ cells_after e n t cells-now (drop i calls)
  pub state : decoder_after e n d calls ≡ decoder_after e n t (drop i calls)
  pub walked : Walked calls now i

module _ {E : Type 0} (e : Element.Ghosts E) (n : ℕ) (d : DecoderState) (cells : List E) (calls : List (Take E))
    (i : ℕ) (t : DecoderState) (cells-now : List E) (now : List (Take E)) (on : TakesWorked e n d cells calls i t cells-now now) where
  pub takes-more : (b y : Take E) (a : TakeAnswer E) (t' : DecoderState) (cells' : List E) → i < length now → y ≡ record { call = (get_or now i b).call; answer = Some a }
      → a ≡ answer_of e (get_or now i b).call (taken_from e n t (get_or now i b).call)
      → cells' ≡ cells_by e cells-now (get_or now i b).call (taken_from e n t (get_or now i b).call)
      → t' ≡ after_taking (taken_from e n t (get_or now i b).call) t
      → TakesWorked e n d cells calls (i + 1) t' cells' (set now i y)
  unfolding takes_answered cells_after left_after
  takes-more b y a t' cells' inside is answer cells_is state =
      let c = get_or now i b in
      let others = drop (i + 1) calls in
      let walk = drop-walked calls now i on.walked inside b in
      record {
        answers =
            on.answers
            ∙ ap (λ xs. take i now ++ takes_answered e n t xs) walk
            ∙ ap₂ (λ (x : Take E) (z : DecoderState). take i now ++ x ∷ takes_answered e n z others) (ap (λ (x : TakeAnswer E). record { call = c.call; answer = Some x }) (sym answer) ∙ sym is) (sym state)
            ∙ sym (append_assoc (take i now) (y ∷ []) (takes_answered e n t' others))
            ∙ ap (λ xs. xs ++ takes_answered e n t' others) (sym (take_more_set now i y inside));
        cells_are =
            on.cells_are
            ∙ ap (cells_after e n t cells-now) walk
            ∙ ap₂ (λ (z : DecoderState) (x : List E). cells_after e n z x others) (sym state) (sym cells_is);
        state = on.state ∙ ap (decoder_after e n t) walk ∙ ap (λ z. decoder_after e n z others) (sym state);
        walked = walked-more calls now i on.walked inside y;
      }

  pub takes_all : length calls ≤ i
      → (now ≡ takes_answered e n d calls) × (cells-now ≡ cells_after e n d cells calls) × (t ≡ decoder_after e n d calls)
  unfolding takes_answered cells_after left_after
  takes_all all =
      let none = drop_all i calls all in (
        sym (on.answers ∙ ap (λ xs. take i now ++ takes_answered e n t xs) none ∙ append-nil (take i now) ∙ take_all i now (subst (λ m. m ≤ i) (sym on.walked.long) all)),
        sym (on.cells_are ∙ ap (cells_after e n t cells-now) none),
        sym (on.state ∙ ap (decoder_after e n t) none),
      )
