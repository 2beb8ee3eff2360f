use Rattle.std.proofs.Common.{◌≡◌, ℕ, ◌<◌, List, All, length, map, get_or, Result, Ok, sym, ap, ◌∙◌, subst, arith}
use Rattle.std.specs.declared.alloc.AllocError.{AllocError}
use Rattle.std.specs.Prelude.{IfOk}
use Rattle.std.proofs.lemmas.Result.{IfOk-weaker}
use Rattle.std.proofs.lemmas.List.{length-map}
use Rattle.running.specs.declared.channel_thread.ChannelThread.{ChannelThread}
use Rattle.running.specs.declared.channel_thread.PlayedChannel.{PlayedChannel}
use Rattle.running.specs.Playing.{IsPlayed, ArePlayed}
use Rattle.running.specs.Homes.{IsLonePair}
use Rattle.running.proofs.Playing.{played_each, lone_each}
use Rattle.running.proofs.runs.play_channels.Goals as goal

pub returns-clause-played : goal.returns-clause-played
returns-clause-played g c =
    let events = c.args.events.now in
    let shared = c.args.shared.now in
    let channel_threads = c.args.channel_threads.items in
    let played = c.in_ok-played.played.items in
    let each : (i : ℕ) (d : Result PlayedChannel AllocError) (l : ChannelThread) → i < length channel_threads → IfOk (get_or played i d) (IsPlayed events (get_or channel_threads i l))
    = λ i d l low.
    let one = (c.in_ok-played.ensures.each i d low).1 in
    subst (λ (x : ChannelThread). IfOk (get_or played i d) (IsPlayed events x)) (sym (one.job_is l))
    (IfOk-weaker (get_or played i d) (λ p. IsPlayed events one.job p × IsLonePair shared p) (IsPlayed events one.job) (λ p both. both.0) one.call.met) in
    let many : length played ≡ length channel_threads = omega (arith, c.in_ok-played.ensures.len, c.in_ok-played.played.ok.0, c.args.channel_threads.ok.0) in
    IfOk-weaker c.collect_played.result (λ v. map Ok v.items ≡ played) (λ v. ArePlayed events channel_threads v.items)
    (λ v is. played_each events channel_threads v.items (sym (length-map v.items Ok) ∙ ap length is ∙ many)
    (λ i d l low. subst (λ (rs : List (Result PlayedChannel AllocError)). IfOk (get_or rs i d) (IsPlayed events (get_or channel_threads i l))) (sym is) (each i d l low)))
    c.collect_played.ensures

pub returns-clause-seats : goal.returns-clause-seats
returns-clause-seats g c =
    let events = c.args.events.now in
    let shared = c.args.shared.now in
    let channel_threads = c.args.channel_threads.items in
    let played = c.in_ok-played.played.items in
    let many : length played ≡ length channel_threads = omega (arith, c.in_ok-played.ensures.len, c.in_ok-played.played.ok.0, c.args.channel_threads.ok.0) in
    let each : (i : ℕ) (d : Result PlayedChannel AllocError) → i < length played → IfOk (get_or played i d) (IsLonePair shared)
    = λ i d low.
    let one = (c.in_ok-played.ensures.each i d (omega (arith, low, many))).1 in
    IfOk-weaker (get_or played i d) (λ p. IsPlayed events one.job p × IsLonePair shared p) (IsLonePair shared) (λ p both. both.1) one.call.met in
    IfOk-weaker c.collect_played.result (λ v. map Ok v.items ≡ played) (λ v. All (IsLonePair shared) v.items)
    (λ v is. lone_each shared v.items
    (λ i d low. subst (λ (rs : List (Result PlayedChannel AllocError)). IfOk (get_or rs i d) (IsLonePair shared)) (sym is)
    (each i d (let long : length v.items ≡ length played = sym (length-map v.items Ok) ∙ ap length is in omega (arith, low, long)))))
    c.collect_played.ensures
