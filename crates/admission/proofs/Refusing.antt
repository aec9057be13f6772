-- A component is refused for the first rule that it breaks, at the first record.
use Rattle.std.proofs.Common.{◌≡◌, ℕ, zero, suc, ◌<◌, Bool, true, false, cond, Some, None, Option, sym, refl, ap, ◌∙◌, subst, arith}
use Rattle.std.specs.Option.{option_or}
use Rattle.component.specs.declared.fault.Reason.{Reason}
use Rattle.component.specs.declared.fault.Reason.TheVariants.{TableSize, RecordNumber, ListOrder, NameText}
use Rattle.component.specs.declared.fault.Fault.{Fault}
use Rattle.component.specs.Meaning.{Meaning}
use Rattle.rules.specs.Lists.{refused, failing, first_failing}
use Rattle.rules.specs.Admission.{size_breach, number_fault, order_fault, name_breach, value_breach, function_breach, block_breach, phi_breach, instruction_breach, mention_breach, function_order, block_order, phi_order, instruction_order}
use Rattle.rules.proofs.Failing.{each_passes}
use Rattle.admission.specs.Laws.{Breaks, FirstRuleBroken, FirstRecordFailing}
use Rattle.admission.proofs.Fits.{refused_none, fitting}
use Rattle.admission.proofs.Accepts.{sized, size_none, number_none, ordered, order_none, name_none}

-- what is found at n itself
at_last : (b : Bool) (n i : ℕ) → cond b None (Some n) ≡ Some i → (i ≡ n) × (b ≡ false)
at_last true n i e = cc
at_last false n i e = (cc, refl)

-- what comes of two comes from the first that has one
either : {X : Type 0} (a b : Option X) (x : X) (P : Type 0) → (a ≡ Some x → P) → (a ≡ None → b ≡ Some x → P) → option_or a b ≡ Some x → P
either (Some y) b x P f g e = f e
either None b x P f g e = g refl e

pub first_record_failing : FirstRecordFailing
first_record_failing p zero i e = cc
first_record_failing p (suc n) i e =
    either (first_failing p n) (failing p n) i ((i < suc n) × (p i ≡ false) × ((j : ℕ) → j < i → p j ≡ true))
    (λ q. let r = first_record_failing p n i q in (omega (arith, r.0), r.1, r.2))
    (λ none q.
    let r = at_last (p n) n i q in
    (omega (arith, r.0), ap p r.0 ∙ r.1, λ j l. each_passes p n none j (omega (arith, r.0))))
    e

reason_refused : (r : Reason) (o : Option ℕ) (f : Fault) → refused r o ≡ Some f → f.reason ≡ r
reason_refused r None f e = cc
reason_refused r (Some i) f e =
    let z : record { reason = r; place = i } ≡ f = cc in sym (ap (λ (x : Fault). x.reason) z)

reason_number : (m : Meaning) (f : Fault) → number_fault m ≡ Some f → f.reason ≡ RecordNumber
reason_number m f e =
    let R = RecordNumber in
    let P = f.reason ≡ R in
    either (refused R (value_breach m)) _ f P (reason_refused R _ f)
    (λ _. either (refused R (function_breach m)) _ f P (reason_refused R _ f)
    (λ _. either (refused R (block_breach m)) _ f P (reason_refused R _ f)
    (λ _. either (refused R (phi_breach m)) _ f P (reason_refused R _ f)
    (λ _. either (refused R (instruction_breach m)) _ f P (reason_refused R _ f) (λ _. reason_refused R (mention_breach m) f))))) e

reason_order : (m : Meaning) (f : Fault) → order_fault m ≡ Some f → f.reason ≡ ListOrder
reason_order m f e =
    let R = ListOrder in
    let P = f.reason ≡ R in
    either (refused R (function_order m)) _ f P (reason_refused R _ f)
    (λ _. either (refused R (block_order m)) _ f P (reason_refused R _ f)
    (λ _. either (refused R (phi_order m)) _ f P (reason_refused R _ f) (λ _. reason_refused R (instruction_order m) f))) e

-- nothing is both refused and not
not_both : (o : Option Fault) (f : Fault) → o ≡ Some f → o ≡ None → ⊥
not_both o f e n = cc

pub first_rule_broken : FirstRuleBroken
first_rule_broken m f e =
    let breaks : (r : Reason) → f.reason ≡ r → Breaks r m → Breaks f.reason m = λ r q b. subst (λ (x : Reason). Breaks x m) (sym q) b in
    let P = Breaks f.reason m in
    either (refused TableSize (size_breach m)) _ f P
    (λ q. breaks TableSize (reason_refused TableSize (size_breach m) f q) (λ h. not_both _ f q (ap (refused TableSize) (size_none m h))))
    (λ a.
    let s = sized m (refused_none TableSize (size_breach m) a) in
    either (number_fault m) _ f P
    (λ q. breaks RecordNumber (reason_number m f q) (s, λ h. not_both (number_fault m) f q (number_none m h)))
    (λ b.
    let t = fitting m b in
    either (order_fault m) _ f P
    (λ q. breaks ListOrder (reason_order m f q) (s, t, λ h. not_both (order_fault m) f q (order_none m h)))
    (λ c q.
    breaks NameText (reason_refused NameText (name_breach m) f q)
    (s, t, ordered m t c, λ h. not_both _ f q (ap (refused NameText) (name_none m h))))))
    e
