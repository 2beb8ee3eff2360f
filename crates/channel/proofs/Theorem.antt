-- Two peers agree in every world that their steps lead to.
use Rattle.std.proofs.Common.{◌≡◌, List, ◌∷◌, sym, ◌∙◌, None}
use Rattle.channel.specs.declared.messages.Message.{Message}
use Rattle.channel.specs.States.{Signing, State, receive_refusal}
use Rattle.channel.specs.Peers.{World}
use Rattle.channel.specs.Agreeing.{AgreesIn, PeersAgree}
use Rattle.channel.proofs.Sides.{sound_in}
use Rattle.channel.proofs.Queues.{Flows, drained_same, mine_grows}
use Rattle.channel.proofs.Agreement.{IsAgreed, agreed}

-- the first message of a queue that flows isn't refused
takes : (tokens_of : Signing) (queue : List Message) (s : State) (m : Message) (rest : List Message) → Flows tokens_of queue s → queue ≡ m ∷ rest → receive_refusal tokens_of s m ≡ None
takes tokens_of queue s m rest f e = let g : Flows tokens_of (m ∷ rest) s = rw e at f in g.0

pub agrees_in : (tokens_of : Signing) (w : World) → IsAgreed tokens_of w → AgreesIn tokens_of w
agrees_in tokens_of w g =
    let a = mine_grows w.to_a w.a in
    let b = mine_grows w.to_b w.b in
    record {
      same_terms = sym g.ab.meets.terms ∙ (drained_same w.to_b w.b).terms;
      a_takes = λ m rest e. takes tokens_of w.to_a w.a m rest g.ba.flows e;
      b_takes = λ m rest e. takes tokens_of w.to_b w.b m rest g.ab.flows e;
      a_accepted = (a.0, a.1 ∙ g.ba.meets.mine);
      b_accepted = (b.0, b.1 ∙ g.ab.meets.mine);
      a_sound = sound_in w.a g.a_kept;
      b_sound = sound_in w.b g.b_kept;
    }

pub peers_agree : PeersAgree
peers_agree tokens_of terms seed_a seed_b w r = agrees_in tokens_of w (agreed tokens_of terms seed_a seed_b w r)
