use Rattle.std.proofs.Common.{◌≡◌, ◌+◌, ◌++◌, ◌∷◌, [], List, map, take, sym, ap, ◌∙◌, subst}
use Rattle.keys.specs.declared.bases.Base.TheVariants.{Payment}
use Rattle.keys.specs.declared.compressed.Key.{Key}
use Rattle.keys.specs.Derivation.{base_key}
use Rattle.book.specs.Books.{replay}
use Rattle.running.specs.Threads.{payments_in}
use Rattle.running.proofs.Payments.{payments_more}
use Rattle.running.proofs.beginning.payments_of.Goals as goal

pub loop-channel-preserved : goal.loop-channel-preserved
loop-channel-preserved c =
    let pushed : c.push.new.self.items ≡ c.loop-channel.payments.items ++ c.base.result ∷ [] = c.in_ok-push.ensures.items in
    let key : c.base.result.bytes ≡ base_key c.in-Some.state.now.seed Payment = c.base.ensures ∙ ap (λ seed. base_key seed Payment) c.signer.ensures.seed in
    let more = payments_more (replay c.args.book.now) c.loop-channel.channel c.in-Some.state.now c.loop-channel.payments.items c.base.result c.in-Some.ensures key c.loop-channel.invariant in
    subst (λ (keys : List Key). map (λ k. k.bytes) keys ≡ payments_in (take (c.loop-channel.channel + 1) (replay c.args.book.now))) (sym pushed) more
