-- The search, pair by pair: what it clears has a pick for every text, and what it rejects has a text without one.
use Rattle.std.proofs.Common.{◌≡◌, ◌≢◌, ℕ, ◌+◌, ◌<◌, ◌≤◌, ◌⊎◌, ◌++◌, true, false, List, [], ◌∷◌, length, replicate, get_or, refl, sym, ap, ◌∙◌, subst, inl, inr, arith}
use Rattle.std.specs.Prelude.{Option, Some, None, IfSome, All, Contains}
use Rattle.std.proofs.lemmas.Bool.{cases_lt, cases_eq}
use Rattle.std.proofs.lemmas.List.{append_assoc, length-append, get_or_default, get_or_append_left}
use Rattle.std.proofs.lemmas.List.Elements.{All-head, All-tail, All-push, Contains-get_or}
use Rattle.seg_data.proofs.Options.{option-cases, none-of}
use Rattle.seg_machine.specs.Machine.{Machine, IsTextSymbol, step, state_at}
use Rattle.seg_machine.specs.Pick.{pick, HasStall, IsStallFree}
use Rattle.seg_machine.specs.Search.{enter, is_settled, is_settled_at_end, IsMet, IsReached, IsMarked, IsQueue, IsGrowth, IsFollowed, AreFollowed, AreReached, IsDone, AreDone, IsCovered, Pair}
use Rattle.seg_machine.proofs.Settled.{settled-none, settled-stop, settled-next, settled-subset, pick-settled}

settled-from : (m : Machine) (marks : List ℕ) (q kept symbol : ℕ) (more : List ℕ) → IsFollowed m marks q kept symbol
    → ((next after : ℕ) → IsMarked marks (next, after) → is_settled m next after more ≡ true) → is_settled m q kept (symbol ∷ more) ≡ true
settled-from m marks q kept symbol more followed settled =
    elim (option-cases (enter kept (state_at m followed.next))) [
      | inl none ↦ settled-stop m q kept symbol followed.next more followed.leads none
      | inr (after, some) ↦
          settled-next m q kept symbol followed.next after more followed.leads some
          ∙ settled followed.next after (marked-at (enter kept (state_at m followed.next)) after followed.next some followed.marked)
    ]
  where
    marked-at : (found : Option ℕ) (after next : ℕ) → found ≡ Some after → IfSome found (λ after. IsMarked marks (next, after)) → IsMarked marks (next, after)
    marked-at found after next is marked = let P : Option ℕ → Type 0 = λ found. IfSome found (λ after. IsMarked marks (next, after)) in subst P is marked

settled-marked : (m : Machine) (marks : List ℕ) (symbols : List ℕ) (q kept : ℕ) → AreDone m marks 256 → All (IsTextSymbol m) symbols → IsMarked marks (q, kept)
    → is_settled m q kept (symbols ++ replicate (length m.states) 0) ≡ true
settled-marked m marks [] q kept done text marked =
    let covered = done (q, kept) marked marked.kept in
    settled-subset m q covered.set kept (replicate (length m.states) 0) covered.subset covered.done.at_end
settled-marked m marks (symbol ∷ symbols) q kept done text marked =
    let here = All-head (IsTextSymbol m) symbol symbols text in
    let covered = done (q, kept) marked marked.kept in
    settled-subset m q covered.set kept (symbol ∷ (symbols ++ replicate (length m.states) 0)) covered.subset
    (settled-from m marks q covered.set symbol (symbols ++ replicate (length m.states) 0) (covered.done.followed symbol here.1 here.0)
    (λ next after found. settled-marked m marks symbols next after done (All-tail (IsTextSymbol m) symbol symbols text) found))

-- where START is followed and all that is marked is done, every text has a pick
pub stall_free : (m : Machine) (marks : List ℕ) → AreDone m marks 256 → AreFollowed m marks 0 0 → IsStallFree m
stall_free m marks done start [] some text = absurd (some refl)
stall_free m marks done start (symbol ∷ symbols) some text =
    let here = All-head (IsTextSymbol m) symbol symbols text in
    pick-settled m (symbol ∷ symbols)
    ∙ settled-from m marks 0 0 symbol (symbols ++ replicate (length m.states) 0) (start symbol here.1 here.0)
    (λ next after found. settled-marked m marks symbols next after done (All-tail (IsTextSymbol m) symbol symbols text) found)

push-some : (symbols : List ℕ) (symbol : ℕ) → symbols ++ symbol ∷ [] ≢ []
push-some [] symbol = λ is. cc
push-some (first ∷ symbols) symbol = λ is. cc

-- a text without a pick, where a symbol leads to no state
pub stalls-step : (m : Machine) (q kept symbol : ℕ) → IsMet m (q, kept) → IsTextSymbol m symbol → step m q symbol ≡ None → HasStall m
stalls-step m q kept symbol met text none =
    let zeros = replicate (length m.states) 0 in
    let before : ((met.symbols ++ symbol ∷ []) ++ zeros) ≡ (met.symbols ++ (symbol ∷ zeros)) = append_assoc met.symbols (symbol ∷ []) zeros in
    let unsettled = ap (is_settled m 0 0) before ∙ met.leads.same (symbol ∷ zeros) ∙ settled-none m q kept symbol zeros none in (
      met.symbols ++ symbol ∷ [],
      push-some met.symbols symbol,
      All-push (IsTextSymbol m) met.symbols symbol met.leads.text text,
      none-of (pick m (met.symbols ++ symbol ∷ [])) (pick-settled m (met.symbols ++ symbol ∷ []) ∙ unsettled),
    )

-- and where the end of the text settles nothing
pub stalls-end : (m : Machine) (q kept : ℕ) → IsReached m (q, kept) → is_settled_at_end m q kept ≡ false → HasStall m
stalls-end m q kept reached unsettled = (
  reached.met.symbols,
  reached.some,
  reached.met.leads.text,
  none-of (pick m reached.met.symbols) (pick-settled m reached.met.symbols ∙ reached.met.leads.same (replicate (length m.states) 0) ∙ unsettled),
)

-- one symbol further
pub reached-next : (m : Machine) (q kept symbol next after : ℕ) → IsMet m (q, kept) → IsTextSymbol m symbol → step m q symbol ≡ Some next
    → enter kept (state_at m next) ≡ Some after → next < length m.states → after < 256 → IsReached m (next, after)
reached-next m q kept symbol next after met text leads some within small = record {
  met = record {
    state = within;
    kept = small;
    symbols = met.symbols ++ symbol ∷ [];
    leads = record {
      text = All-push (IsTextSymbol m) met.symbols symbol met.leads.text text;
      same = λ more.
          ap (is_settled m 0 0) (append_assoc met.symbols (symbol ∷ []) more)
          ∙ met.leads.same (symbol ∷ more)
          ∙ settled-next m q kept symbol next after more leads some;
    };
  };
  some = push-some met.symbols symbol;
}

-- more marks

pub growth-then : (before marks after : List ℕ) (kept : ℕ) → IsGrowth before marks kept → IsGrowth marks after kept → IsGrowth before after kept
growth-then before marks after kept first second = record {
  keeps = λ pair marked. second.keeps pair (first.keeps pair marked);
  above = λ pair marked less. first.above pair (second.above pair marked less) less;
}

more-marked : (before after : List ℕ) (next : ℕ) (found : Option ℕ) → ((pair : Pair) → IsMarked before pair → IsMarked after pair)
    → IfSome found (λ set. IsMarked before (next, set)) → IfSome found (λ set. IsMarked after (next, set))
more-marked before after next None keeps marked = tt
more-marked before after next (Some set) keeps marked = keeps (next, set) marked

pub followed-more : (m : Machine) (before after : List ℕ) (q kept symbol : ℕ) → ((pair : Pair) → IsMarked before pair → IsMarked after pair)
    → IsFollowed m before q kept symbol → IsFollowed m after q kept symbol
followed-more m before after q kept symbol keeps followed = record {
  next = followed.next;
  leads = followed.leads;
  marked = more-marked before after followed.next (enter kept (state_at m followed.next)) keeps followed.marked;
}

pub are_followed-more : (m : Machine) (before after : List ℕ) (q kept : ℕ) → ((pair : Pair) → IsMarked before pair → IsMarked after pair)
    → AreFollowed m before q kept → AreFollowed m after q kept
are_followed-more m before after q kept keeps followed = λ symbol below above. followed-more m before after q kept symbol keeps (followed symbol below above)

pub done-more : (m : Machine) (before after : List ℕ) (pair : Pair) → ((pair : Pair) → IsMarked before pair → IsMarked after pair) → IsDone m before pair → IsDone m after pair
done-more m before after pair keeps here = record { at_end = here.at_end; followed = are_followed-more m before after pair.0 pair.1 keeps here.followed }

-- the first `done` states of a set's queue are done
abbrev pub FirstDone : Machine → List ℕ → List ℕ → ℕ → ℕ → Type 0
FirstDone m marks queue kept done = (k : ℕ) → k < done → IsDone m marks (get_or queue k 0, kept)

-- what the loop over a set's queue keeps
pub record IsSweep (m : Machine) (before marks queue : List ℕ) (kept done : ℕ) : Type 0 where
  pub within : done ≤ length queue
  pub reached : AreReached m marks
  pub listed : IsQueue marks queue kept
  pub growth : IsGrowth before marks kept
  pub first : FirstDone m marks queue kept done

pub reached-at : (m : Machine) (before marks queue : List ℕ) (kept place : ℕ) {done : ℕ} → IsSweep m before marks queue kept done → place < length queue
    → IsReached m (get_or queue place 0, kept)
reached-at m before marks queue kept place sweep less =
    sweep.reached (get_or queue place 0, kept) (sweep.listed.marked (get_or queue place 0) (Contains-get_or queue place 0 less))

pub sweep-next : (m : Machine) (before marks after queue longer more : List ℕ) (kept done : ℕ) → IsSweep m before marks queue kept done → done < length queue
    → AreReached m after → IsQueue after longer kept → longer ≡ queue ++ more → IsGrowth marks after kept
    → is_settled_at_end m (get_or queue done 0) kept ≡ true → AreFollowed m after (get_or queue done 0) kept → IsSweep m before after longer kept (done + 1)
sweep-next m before marks after queue longer more kept done sweep less reached listed is growth at_end followed = record {
  within = let long = ap (λ (xs : List ℕ). length xs) is in let parts = length-append queue more in omega arith;
  reached = reached;
  listed = listed;
  growth = growth-then before marks after kept sweep.growth growth;
  first = λ k earlier.
      let same : (i : ℕ) → i < length queue → get_or queue i 0 ≡ get_or longer i 0 =
      λ i within. sym (ap (λ (xs : List ℕ). get_or xs i 0) is ∙ get_or_append_left queue more 0 i within)
      in
      elim (cases_lt k done) [
        | inl before_it ↦
            subst (λ (state : ℕ). IsDone m after (state, kept)) (same k (omega arith)) (done-more m marks after (get_or queue k 0, kept) growth.keeps (sweep.first k before_it))
        | inr last ↦
            let here : done ≡ k = omega arith in
            subst (λ (i : ℕ). IsDone m after (get_or longer i 0, kept)) here
            (subst (λ (state : ℕ). IsDone m after (state, kept)) (same done less) (record { at_end = at_end; followed = followed }))
      ];
}

-- the sets before were done, and now this one is
pub swept : (m : Machine) (before marks queue : List ℕ) (kept done : ℕ) → IsSweep m before marks queue kept done → length queue ≤ done
    → AreDone m before kept → AreDone m marks (kept + 1)
swept m before marks queue kept done sweep all lower (state, set) marked less =
    elim (cases_lt set kept) [
      | inl earlier ↦ was set earlier marked
      | inr last ↦
          let here : kept ≡ set = omega arith in
          let at : IsMarked marks (state, kept) = subst (λ (s : ℕ). IsMarked marks (state, s)) (sym here) marked in
          subst (λ (s : ℕ). IsCovered m marks (state, s)) here
          (elim (sweep.listed.listed state at) [
            | inl listed ↦ record { set = kept; subset = λ lookahead has. has; done = in-queue listed }
            | inr below ↦
                let covered = was below.set below.less below.marked in
                record { set = covered.set; subset = λ lookahead has. below.subset lookahead (covered.subset lookahead has); done = covered.done }
          ])
    ]
  where
    was : (set : ℕ) → set < kept → IsMarked marks (state, set) → IsCovered m marks (state, set)
    was set earlier marked =
        let covered = lower (state, set) (sweep.growth.above (state, set) marked earlier) earlier in
        record { set = covered.set; subset = covered.subset; done = done-more m before marks (state, covered.set) sweep.growth.keeps covered.done }

    in-queue : Contains queue state → IsDone m marks (state, kept)
    in-queue (k, within, is) =
        subst (λ (s : ℕ). IsDone m marks (s, kept)) (get_or_default queue k 0 state within ∙ is) (sweep.first k (omega arith))

-- what the loop over the symbols keeps
pub record IsListing (m : Machine) (before marks first queue : List ℕ) (q kept symbol : ℕ) : Type 0 where
  pub reached : AreReached m marks
  pub listed : IsQueue marks queue kept
  pub more : (more : List ℕ) × (queue ≡ first ++ more)
  pub growth : IsGrowth before marks kept
  pub followed : (s : ℕ) → s < symbol → 0 < s → IsFollowed m marks q kept s

grown-more : (first queue longer : List ℕ) (state : ℕ) → (longer ≡ queue) ⊎ (longer ≡ queue ++ state ∷ []) → (more : List ℕ) × (queue ≡ first ++ more) → (more : List ℕ) × (longer ≡ first ++ more)
grown-more first queue longer state (inl same) (more, is) = (more, same ∙ is)
grown-more first queue longer state (inr one) (more, is) = (more ++ state ∷ [], one ∙ ap (λ (xs : List ℕ). xs ++ state ∷ []) is ∙ append_assoc first more (state ∷ []))

-- the symbol leads to a pair, which is marked now
pub listing-push : (m : Machine) (before marks after first queue longer : List ℕ) (q kept symbol next set : ℕ)
    → IsListing m before marks first queue q kept symbol → IsMet m (q, kept) → IsTextSymbol m symbol
    → step m q symbol ≡ Some next → next < length m.states → enter kept (state_at m next) ≡ Some set → set < 256 → kept ≤ set
    → IsQueue after longer kept → (longer ≡ queue) ⊎ (longer ≡ queue ++ next ∷ []) → IsMarked after (next, set)
    → ((pair : Pair) → IsMarked marks pair → IsMarked after pair)
    → ((pair : Pair) → IsMarked after pair → (pair ≡ (next, set)) ⊎ IsMarked marks pair)
    → IsListing m before after first longer q kept (symbol + 1)
listing-push m before marks after first queue longer q kept symbol next set listing met text leads within some small grows listed grown marked keeps only = record {
  reached = λ pair there.
      elim (only pair there) [
        | inl here ↦ subst (IsReached m) (sym here) (reached-next m q kept symbol next set met text leads some within small)
        | inr earlier ↦ listing.reached pair earlier
      ];
  listed = listed;
  more = grown-more first queue longer next grown listing.more;
  growth = record {
    keeps = λ pair there. keeps pair (listing.growth.keeps pair there);
    above = λ pair there less.
        elim (only pair there) [
          | inl here ↦ let kept_is = ap (λ (p : Pair). p.1) here in absurd (omega arith)
          | inr earlier ↦ listing.growth.above pair earlier less
        ];
  };
  followed = λ s less above.
      elim (cases_eq symbol s) [
        | inl last ↦ subst (IsFollowed m after q kept) last (record { next = next; leads = leads; marked = rw some marked })
        | inr other ↦ followed-more m marks after q kept s keeps (listing.followed s (omega arith) above)
      ];
}

-- the symbol leads to a state that settles it
pub listing-stop : (m : Machine) (before marks first queue : List ℕ) (q kept symbol next : ℕ)
    → IsListing m before marks first queue q kept symbol → step m q symbol ≡ Some next → enter kept (state_at m next) ≡ None
    → IsListing m before marks first queue q kept (symbol + 1)
listing-stop m before marks first queue q kept symbol next listing leads none = record {
  reached = listing.reached;
  listed = listing.listed;
  more = listing.more;
  growth = listing.growth;
  followed = λ s less above.
      elim (cases_eq symbol s) [
        | inl last ↦ subst (IsFollowed m marks q kept) last (record { next = next; leads = leads; marked = rw none tt })
        | inr other ↦ listing.followed s (omega arith) above
      ];
}
