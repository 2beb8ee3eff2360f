-- A commitment is that of its view.
use Rattle.std.proofs.Common.{◌≡◌, ℕ, List, refl, ap, ◌∙◌, Err, Some}
use Rattle.keys.specs.declared.compressed.Key.{Key}
use Rattle.terms.specs.declared.numbers.Obscured.{Obscured}
use Rattle.terms.specs.declared.sides.Side.{Side}
use Rattle.terms.specs.declared.agreement.Terms.{Terms}
use Rattle.terms.specs.declared.views.View.{View}
use Rattle.terms.specs.Agreement.{party}
use Rattle.terms.specs.Numbers.{mask_of, obscured}
use Rattle.commit.specs.declared.derived.CommitmentKeys.{CommitmentKeys}
use Rattle.commit.specs.declared.outputs.CommitmentOutput.{CommitmentOutput}
use Rattle.commit.specs.declared.errors.BuildError.{BuildError}
use Rattle.commit.specs.declared.errors.BuildError.TheVariants.{NoMemory, TooManyOutputs, ValueTooLarge}
use Rattle.commit.specs.Amounts.{amounts_of}
use Rattle.commit.specs.Keys.{AreKeysOf, keys_of, bytes_of}
use Rattle.commit.specs.Outputs.{outputs_of}
use Rattle.commit.specs.Order.{in_order}
use Rattle.commit.specs.Commitments.{Contents, commitment_of}
use Rattle.commit.specs.Building.{Gives, refusal_of}

keys_are : (terms : Terms) (owner : Side) (point : List ℕ) (k : CommitmentKeys) → AreKeysOf terms owner point k → bytes_of k ≡ keys_of terms owner point
unfolding keys_of
keys_are terms owner point k a = rw (a.revocation, a.delayed, a.local_htlc, a.remote_htlc, ap (λ (key : Key). key.bytes) a.remote) refl

pub contents_are : (terms : Terms) (view : View) (owner : Side) (n : ℕ) (point : List ℕ) (k : CommitmentKeys) (hidden : Obscured) (outputs : List CommitmentOutput)
    → AreKeysOf terms owner point k → hidden ≡ obscured (mask_of terms) n
    → outputs ≡ in_order (outputs_of (party owner terms).delay_blocks (bytes_of k) (amounts_of terms view owner))
    → record { funding = terms.funding; hidden = hidden; keys = bytes_of k; delay_blocks = (party owner terms).delay_blocks; feerate_per_kw = view.feerate_per_kw; outputs = outputs } ≡ commitment_of terms view owner n point
unfolding commitment_of
contents_are terms view owner n point k hidden outputs a h o = let e : bytes_of k ≡ keys_of terms owner point = keys_are terms owner point k a in rw (h, o, e) refl

pub outputs_are : (terms : Terms) (view : View) (owner : Side) (n : ℕ) (point : List ℕ) (k : CommitmentKeys) (outputs : List CommitmentOutput)
    → AreKeysOf terms owner point k → outputs ≡ in_order (outputs_of (party owner terms).delay_blocks (bytes_of k) (amounts_of terms view owner))
    → outputs ≡ (commitment_of terms view owner n point).outputs
unfolding commitment_of
outputs_are terms view owner n point k outputs a o = o ∙ ap (λ b. in_order (outputs_of (party owner terms).delay_blocks b (amounts_of terms view owner))) (keys_are terms owner point k a)

pub refused : (c : Contents) (e : BuildError) → refusal_of c.outputs ≡ Some e → Gives c (Err e)
refused c NoMemory h = tt
refused c TooManyOutputs h = h
refused c ValueTooLarge h = h
