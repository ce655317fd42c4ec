use Rattle.std.proofs.Common.{ℕ, ◌/◌, length, take, drop, sym, ap, ◌∙◌, subst, rules}
use Rattle.areas.specs.declared.map.Area.{Area}
use Rattle.areas.specs.Areas.{place_of}
use Rattle.areas.specs.Words.{bytes_of_words}
use Rattle.frame.specs.Places.{asked, Placed}
use Rattle.memory.specs.Portions.{words_at}
use Rattle.part.specs.Parts.{doing, checking}
use Rattle.part.specs.Receiving.{served, answering, data_answer, taking, write_task, erase_task}
use Rattle.commands.specs.Kinds.{mode_byte}
use Rattle.receiver.proofs.Stored.{stored_same}
use Rattle.receiver.proofs.deciding.order.Goals as goal

pub returns-in-Get : goal.returns-in-Get
unfolding served
returns-in-Get c = record {
  serves = λ i level m f s p q t. ap (λ x. served i level m (asked x)) c.in-Get.is;
  modest = search rules;
}

pub returns-in-Read : goal.returns-in-Read
unfolding served
returns-in-Read c = record {
  serves = λ i level m f s p q t.
      let place = ap (λ (P : ℕ). place_of P c.in-Read.address) p ∙ sym c.place_of-area.ensures.is_area_and_word_number in
      ap (λ x. served i level m (asked x)) c.in-Read.is
      ∙ ap (λ (x : Area × ℕ). answering (data_answer (bytes_of_words (words_at m x.0 x.1 (c.in-Read.count / 4))))) place;
  modest = search rules;
}

pub returns-in-Write : goal.returns-in-Write
unfolding served
returns-in-Write c = record {
  serves = λ i level m f s p q t.
      let stands = subst (Placed f) c.in-Write.is q in
      let payload = c.in-Write.«data» in
      let bytes = payload.bytes.now in
      ap (λ x. served i level m (asked x)) c.in-Write.is
      ∙ ap (λ (P : ℕ). taking (write_task (place_of P payload.address).0 (place_of P payload.address).1 bytes)) p
      ∙ sym (c.write_order.ensures.writes i level m s (stored_same f s bytes payload.whole
      (stands.1 ∙ ap (λ (k : ℕ). take (length bytes) (drop k f)) stands.0) t));
  modest = search rules;
}

pub returns-in-MemoryCrc : goal.returns-in-MemoryCrc
unfolding served
returns-in-MemoryCrc c = record {
  serves = λ i level m f s p q t.
      let place = ap (λ (P : ℕ). place_of P c.in-MemoryCrc.address) p ∙ sym c.place_of-first.ensures.is_area_and_word_number in
      ap (λ x. served i level m (asked x)) c.in-MemoryCrc.is
      ∙ ap (λ (x : Area × ℕ). taking (doing (checking x.1 (c.in-MemoryCrc.count / 4) c.in-MemoryCrc.value 0 0xFFFF))) place;
  modest = search rules;
}

pub returns-in-Erase : goal.returns-in-Erase
unfolding served
returns-in-Erase c = record {
  serves = λ i level m f s p q t.
      ap (λ x. served i level m (asked x)) c.in-Erase.is
      ∙ ap (λ (P : ℕ). taking (erase_task P (mode_byte c.in-Erase.mode) c.in-Erase.index c.in-Erase.count)) p
      ∙ sym (ap taking (c.erase_task.ensures.erases s));
  modest = search rules;
}

pub returns-in-Protect : goal.returns-in-Protect
unfolding served
returns-in-Protect c = record {
  serves = λ i level m f s p q t. ap (λ x. served i level m (asked x)) c.in-Protect.is;
  modest = search rules;
}

pub returns-in-Unprotect : goal.returns-in-Unprotect
unfolding served
returns-in-Unprotect c = record {
  serves = λ i level m f s p q t. ap (λ x. served i level m (asked x)) c.in-Unprotect.is;
  modest = search rules;
}
