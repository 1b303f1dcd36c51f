-- As many places hold a line feed as there are line feeds.
use Rattle.std.proofs.Common.{◌≡◌, ℕ, zero, suc, ◌+◌, ◌-◌, ◌==◌, arith, Bool, true, false, List, ◌∷◌, length, drop, filter, sym, ap, ◌∙◌, if◌then◌else◌}
use Rattle.std.specs.Prelude.{slice_index}
use Rattle.std.proofs.lemmas.List.{drop_all, drop_more}
use Rattle.memchr.specs.Find.{is_byte, places, places_from}
use Rattle.segment_text.specs.Size.{line_feeds}

one-more : (is_feed : Bool) (byte place : ℕ) (places bytes : List ℕ) → length places ≡ length bytes
    → length (if is_feed then place ∷ places else places) ≡ length (if is_feed then byte ∷ bytes else bytes)
one-more true byte place places bytes same = ap suc same
one-more false byte place places bytes same = same

places-from : (text : List ℕ) (from count : ℕ) → from + count ≡ length text → length (places_from (is_byte 0x0A) text from count) ≡ line_feeds (drop from text)
unfolding places_from
places-from text from zero all = ap line_feeds (sym (drop_all from text (omega (arith, all))))
places-from text from (suc count) all =
    one-more (slice_index text from == 0x0A) (slice_index text from) from (places_from (is_byte 0x0A) text (from + 1) count)
    (filter (λ byte. byte == 0x0A) (drop (from + 1) text)) (places-from text (from + 1) count (omega (arith, all)))
    ∙ sym (ap line_feeds (drop_more text from 0 (omega (arith, all))))

pub places-are : (text : List ℕ) → length (places (is_byte 0x0A) text) ≡ line_feeds text
places-are text = places-from text 0 (length text - 0) (omega arith)
