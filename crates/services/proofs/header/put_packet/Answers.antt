use Rattle.std.proofs.Common.{◌≡◌, ℕ, List, [], ◌++◌, refl, append_assoc}
use Rattle.std.proofs.lemmas.List.{append-nil}
use Rattle.frame_codec.specs.Internet.{internet_size}
use Rattle.services.specs.Message.{icmp_way, icmp_packet}
use Rattle.services.proofs.Sound.{size_sound, way_sound}
use Rattle.services.proofs.Replies.{put_behind}
use Rattle.services.proofs.header.put_packet.Goals as goal

three_behind : (front a b c one two all : List ℕ) → one ≡ front ++ a → two ≡ one ++ b → all ≡ two ++ c → all ≡ front ++ (a ++ (b ++ (c ++ [])))
three_behind front a b c one two all e f g = rw (g, f, e, append-nil c, append_assoc (front ++ a) b c, append_assoc front a (b ++ c)) refl

pub returns-clause-items : goal.returns-clause-items
unfolding icmp_packet
returns-clause-items g c =
    put_behind internet_size c.args.header.now.size _ _ _ _ size_sound c.put_size.ensures.items
    (put_behind icmp_way tt _ _ _ _ way_sound c.put_way.ensures.items
    (three_behind _ _ _ _ _ _ _ c.append_u16.ensures.items c.append.ensures.items c.append-2.ensures.items))
