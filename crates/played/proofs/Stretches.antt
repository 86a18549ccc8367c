-- What the Rust's lane gave in each stretch of a list and where it then stood, and that antt computes the same of the definition. Made by harness/vectors: no line here was written by hand. Assumes nothing.
use mathlib.Core.Path.{refl}
use mathlib.Core.Bool.{true, false}
use mathlib.Core.List.{List, [], ◌∷◌, ◌++◌}
use Rattle.rate.specs.Rate.{rate_of}
use Rattle.strip.specs.Machine.{LaneMachine, Sent, fresh_lane}
use Rattle.played.specs.Played.{double, given}
use Rattle.played.proofs.Apart.{Stretch, ◌&◌, At, at, Dry, sounds, moves, asks, refuses, lane_fed, lane_call}
use Rattle.played.proofs.Computed.{computed}
use Rattle.played.proofs.Written.{line, section, pole, lane}
use Rattle.played.specs.Lists.{everything, everything0, everything1, everything2, everything3, cd, cd0, cd1, cd2, cd3}

-- everything
abbrev everything_lane1 : At LaneMachine
everything_lane1 =
    lane 16 everything.setup everything.lists (line (double 0x3fd0000000000000) (double 0x3ff0000000000000) 3 40) (line (double 0x3fe0000000000000) (double 0x0) 3 30)
    (section (double 0x3fed10a7011fe8db) (double 0x3ffd10a7011fe8db) (double 0x3fed10a7011fe8db) (double 0x3fda35187a578ee7) (double 0x4001ca03f1d4f6fe) (double 0x3fd8000000000000) (double 0x4007800000000000) (double 0x4070c54a868945ca) (double 0x4091d1f0374453fa))
    (section (double 0x401af5fcae4828c6) (double 0x402af5fcae4828c6) (double 0x401af5fcae4828c6) (double 0x40084f642a6304a8) (double 0x4036ec1028fbc831) (double 0x4070c54a868945ca) (double 0x4091d1f0374453fa) (double 0x4220d72444df9e78) (double 0xc214bfc9f74f99df))
    (section (double 0x3fde3d9cb65c1fdd) (double 0x0) (double 0xbfde3d9cb65c1fdd) (double 0x3fe472b1736b0a88) (double 0x3fac26349a3e0233) (double 0x3ff1223f1b97e90b) (double 0xbff1223f1b97e90b) (double 0x3fe7bdde3c3111b1) (double 0xbff2c06c37705d1b))
    (section (double 0x3facc9f9b39cb978) (double 0x3fbcc9f9b39cb978) (double 0x3facc9f9b39cb978) (double 0xbff74308a2bf8758) (double 0x3fe5b88fb2663d0e) (double 0x3ff549df9823cdd4) (double 0xbff7b264f9ebfecf) (double 0x3fbc99f23079df3c) (double 0xbfbce4c7d7220a90))
    (section (double 0x3fa775d407b9e1b1) (double 0x3fb775d407b9e1b1) (double 0x3fa775d407b9e1b1) (double 0xbff2f4c916e5c45c) (double 0x3fd78e0e5f740249) (double 0x3fbc99f23079df3c) (double 0xbfbce4c7d7220a90) (double 0xbfce30dd6608dc52) (double 0xbfca8ba093798e54))
    (double 0x42427bac31195f75 ∷ double 0xc238b827ed0a370c ∷ double 0x41fa324d1f962cbd ∷ double 0x41efd9a3ef72a628 ∷ [])
    (pole (double 0x3d199200ce920df9) (double 0xbfce30dd6608dc3b))
    (true ∷ true ∷ false ∷ false ∷ [])

abbrev everything_dry0 : List Dry
everything_dry0 = asks true ∷ sounds (given everything.setup (double 0xbfaa56f017672657 ∷ double 0xbfd8d9eadce60a3c ∷ double 0xbfefa27b40a36ad3 ∷ [])) ∷ moves ∷ refuses 7 ∷ sounds (given everything.setup (double 0xbff008760afdec96 ∷ double 0xbfedd21455089ac8 ∷ double 0xbfeeab23b170261b ∷ double 0xbfe6159b48cf2f7b ∷ double 0xbfc3d01bb9f21586 ∷ double 0x3fe0b47c2c27d340 ∷ double 0x3ff0ef4a1a19dfa6 ∷ double 0x3ff36800511b90c0 ∷ double 0x3fee01d684ef0e8c ∷ double 0x3fd24e90859e8517 ∷ double 0xbfe2191cbe165671 ∷ double 0xbff414eed31656b4 ∷ double 0xbff7a6f03ddb813b ∷ [])) ∷ []

everything_stretch0 : Stretch (lane_call (rate_of 240)) (at 0 (fresh_lane (rate_of 240) everything.setup everything.lists)) everything0 everything_lane1 everything_dry0
unfolding computed
everything_stretch0 = record { rolls = refl }

abbrev everything_lane2 : At LaneMachine
everything_lane2 =
    lane 32 everything.setup everything.lists (line (double 0x3fd0000000000000) (double 0x3ff0000000000000) 3 40) (line (double 0x3fe0000000000000) (double 0x0) 3 30)
    (section (double 0x3fed10a7011fe8db) (double 0x3ffd10a7011fe8db) (double 0x3fed10a7011fe8db) (double 0x3fda35187a578ee7) (double 0x4001ca03f1d4f6fe) (double 0xc00c800000000000) (double 0x400e000000000000) (double 0xc12c9b517d6ca3c2) (double 0xc10d406173bdd08c))
    (section (double 0x401af5fcae4828c6) (double 0x402af5fcae4828c6) (double 0x401af5fcae4828c6) (double 0x40084f642a6304a8) (double 0x4036ec1028fbc831) (double 0xc12c9b517d6ca3c2) (double 0xc10d406173bdd08c) (double 0xc4733012241301cb) (double 0xc445276a5e4e8022))
    (section (double 0x3fde3d9cb65c1fdd) (double 0x0) (double 0xbfde3d9cb65c1fdd) (double 0x3fe472b1736b0a88) (double 0x3fac26349a3e0233) (double 0xbff1223f1b97e90b) (double 0xbff1223f1b97e90b) (double 0xbfe346ab1d853e60) (double 0xbfe7bd21c7888a38))
    (section (double 0x3facc9f9b39cb978) (double 0x3fbcc9f9b39cb978) (double 0x3facc9f9b39cb978) (double 0xbff74308a2bf8758) (double 0x3fe5b88fb2663d0e) (double 0xbff481d03fcbb1ce) (double 0xbff549be9d5325f1) (double 0xbfd7ba3e5cbd2a2a) (double 0xbfbaa3cac5941dd4))
    (section (double 0x3fa775d407b9e1b1) (double 0x3fb775d407b9e1b1) (double 0x3fa775d407b9e1b1) (double 0xbff2f4c916e5c45c) (double 0x3fd78e0e5f740249) (double 0xbfd7ba3e5cbd2a2a) (double 0xbfbaa3cac5941dd4) (double 0x3fc6ee07557ae127) (double 0x3fcd87ba5422266b))
    (double 0xc49150ec14913d49 ∷ double 0xc4611b3880007692 ∷ double 0x444b727ae41b6bee ∷ double 0xc3fbdbdf479e09b0 ∷ [])
    (pole (double 0x3d199200ce920df9) (double 0x3fc6ee07557ae151))
    (true ∷ true ∷ false ∷ false ∷ [])

abbrev everything_dry1 : List Dry
everything_dry1 = sounds (given everything.setup (double 0xbff2c25fca15f315 ∷ double 0xbfd9c1ca19b5c3e5 ∷ double 0x3fe3b6c62f7b0996 ∷ double 0x3ff727fee47ee750 ∷ double 0x3ffba30569e993a3 ∷ double 0x3ff61ad95df613fa ∷ double 0x3fdf2f13ed746387 ∷ [])) ∷ refuses 8 ∷ asks false ∷ sounds (given everything.setup (double 0xbfe66a0d7aaaabcb ∷ double 0xbffab7d131a80549 ∷ double 0xbffff37799ec6e25 ∷ double 0xbff98e120d03d969 ∷ double 0xbfe203bd888b10f7 ∷ double 0x3fe9d9df6aa9acd0 ∷ double 0x3ffec44aeb599530 ∷ double 0x40025c763d336a70 ∷ double 0x3ffd4dd8eb74ce39 ∷ [])) ∷ []

everything_stretch1 : Stretch (lane_call (rate_of 240)) everything_lane1 everything1 everything_lane2 everything_dry1
unfolding computed
everything_stretch1 = record { rolls = refl }

abbrev everything_lane3 : At LaneMachine
everything_lane3 =
    lane 48 everything.setup everything.lists (line (double 0x3fd0000000000000) (double 0x3ff0000000000000) 3 40) (line (double 0x3fe0000000000000) (double 0x0) 3 30)
    (section (double 0x3ff2bb77b5a4d9ea) (double 0x4002bb77b5a4d9ea) (double 0x3ff2bb77b5a4d9ea) (double 0x40005342359b42f3) (double 0x3ffa475a6b5ce1c1) (double 0x4005000000000000) (double 0x3fd0000000000000) (double 0x41155e42383c02f8) (double 0xc114a8cf2038f86e))
    (section (double 0x4001298b24f5220e) (double 0x4011298b24f5220e) (double 0x4001298b24f5220e) (double 0x400de9f64ef90104) (double 0x400ebc3644db8733) (double 0x41155e42383c02f8) (double 0xc114a8cf2038f86e) (double 0x4431b735164def03) (double 0xc42231588dc46e54))
    (section (double 0x3fde3d9cb65c1fdd) (double 0x0) (double 0xbfde3d9cb65c1fdd) (double 0x3fe472b1736b0a88) (double 0x3fac26349a3e0233) (double 0x3ff0145b3cc9964b) (double 0xbff0145b3cc9964b) (double 0x3fb469f00f11cefd) (double 0xbfc30596f69c58f6))
    (section (double 0x3facc9f9b39cb978) (double 0x3fbcc9f9b39cb978) (double 0x3facc9f9b39cb978) (double 0xbff74308a2bf8758) (double 0x3fe5b88fb2663d0e) (double 0x3ff086ac7cfd5085) (double 0xbff0e966a4238eb3) (double 0xbfad898ec0efe4b2) (double 0x3f92fdb5b99903f0))
    (section (double 0x3fa775d407b9e1b1) (double 0x3fb775d407b9e1b1) (double 0x3fa775d407b9e1b1) (double 0xbff2f4c916e5c45c) (double 0x3fd78e0e5f740249) (double 0xbfad898ec0efe4b2) (double 0x3f92fdb5b99903f0) (double 0x3fc7b803ebadfc0d) (double 0x3fccf89bf5d3213c))
    (double 0x44537198478100f3 ∷ double 0xc445ac7d9c56c042 ∷ double 0x4435aea335171c84 ∷ double 0xc42311ed8e57afe5 ∷ [])
    (pole (double 0x3d199200ce920df9) (double 0x3fc7b803ebadfc2e))
    (true ∷ true ∷ false ∷ true ∷ [])

abbrev everything_dry2 : List Dry
everything_dry2 = sounds (given everything.setup (double 0x3fe47d70e1c1174e ∷ double 0xbff0219d1b513bda ∷ double 0xbfff84296cb5c2ea ∷ double 0xbffdeb1e9338e882 ∷ double 0xc000bc70de4c59dc ∷ double 0xbffef79ccc089708 ∷ double 0xbff7bf196965fc6f ∷ double 0xbfec265fe0ea8651 ∷ double 0xbfd1709f0bbe32de ∷ double 0x3fd0c4a0e4380ba2 ∷ double 0x3fe9001edfd42078 ∷ double 0x3ff561af8582ee25 ∷ double 0x3ffd408980914c21 ∷ double 0x4000d2c57dfbaa81 ∷ double 0x4000a2f66a085a1d ∷ double 0x3ffc58683ad9dfd7 ∷ [])) ∷ []

everything_stretch2 : Stretch (lane_call (rate_of 240)) everything_lane2 everything2 everything_lane3 everything_dry2
unfolding computed
everything_stretch2 = record { rolls = refl }

abbrev everything_lane4 : At LaneMachine
everything_lane4 =
    lane 64 everything.setup everything.lists (line (double 0x3ff0000000000000) (double 0x3fe0000000000000) 48 10) (line (double 0x0) (double 0x3fe8000000000000) 48 20)
    (section (double 0x3fe71402757b2e5a) (double 0x3ff71402757b2e5a) (double 0x3fe71402757b2e5a) (double 0x3ff44af17d4c53a6) (double 0x3fe3ba26db54121c) (double 0xbfea000000000000) (double 0x4008000000000000) (double 0xc12128b9dbff2b61) (double 0x412f3036b3a1ca38))
    (section (double 0x3fe2279b2dec5c53) (double 0x3ff2279b2dec5c53) (double 0x3fe2279b2dec5c53) (double 0x3fefed5401ce4433) (double 0x3fd162316bc65a33) (double 0xc12128b9dbff2b61) (double 0x412f3036b3a1ca38) (double 0xc4846ddf3a465eb2) (double 0x449683f475394020))
    (section (double 0x3fde3d9cb65c1fdd) (double 0x0) (double 0xbfde3d9cb65c1fdd) (double 0x3fe472b1736b0a88) (double 0x3fac26349a3e0233) (double 0xbff0768b253c5651) (double 0x3ff0768b253c5651) (double 0xbf75e3993296cbb8) (double 0x3f8464bccd29e4fe))
    (section (double 0x3facc9f9b39cb978) (double 0x3fbcc9f9b39cb978) (double 0x3facc9f9b39cb978) (double 0xbff74308a2bf8758) (double 0x3fe5b88fb2663d0e) (double 0xbff07e3467a57456) (double 0x3ff084d1a9617918) (double 0xbfa361669415442a) (double 0xbfb1fb817e69d4cf))
    (section (double 0x3fa775d407b9e1b1) (double 0x3fb775d407b9e1b1) (double 0x3fa775d407b9e1b1) (double 0xbff2f4c916e5c45c) (double 0x3fd78e0e5f740249) (double 0xbfa361669415442a) (double 0xbfb1fb817e69d4cf) (double 0xbf9e2aa97014910f) (double 0xbf39880917c3e980))
    (double 0xc4a26fb92d96dfc3 ∷ double 0x44b23511eb0476c3 ∷ double 0xc4c0490cc904790b ∷ double 0x44cac04ad12df170 ∷ [])
    (pole (double 0x3d199200ce920df9) (double 0xbf9e2aa970149051))
    (true ∷ true ∷ false ∷ true ∷ [])

abbrev everything_dry3 : List Dry
everything_dry3 = moves ∷ sounds (given everything.setup (double 0x3ff4427066e5d7cd ∷ double 0x3fe5fc919a9831db ∷ double 0x3fc38918ba5130b8 ∷ double 0xbfce4bfc31248520 ∷ double 0xbfd82444b483779e ∷ [])) ∷ sounds (given everything.setup ([])) ∷ sounds (given everything.setup (double 0xbfbc09b2b621d472 ∷ double 0x3fe2ebd69e39f156 ∷ double 0x3ff7767b52481423 ∷ double 0x40016022acebbb4a ∷ double 0x4003ed1d634f0572 ∷ double 0x4002fa315b18c830 ∷ double 0x3ffe6f7c3b49d8c5 ∷ double 0x3ff3de6efb3dbe97 ∷ double 0x3fe1f4d70462c4a8 ∷ double 0xbf744568405751dc ∷ double 0xbfd8474b437b6e05 ∷ [])) ∷ asks false ∷ []

everything_stretch3 : Stretch (lane_call (rate_of 240)) everything_lane3 everything3 everything_lane4 everything_dry3
unfolding computed
everything_stretch3 = record { rolls = refl }

abbrev pub everything_dry : List Dry
everything_dry = everything_dry0 ++ everything_dry1 ++ everything_dry2 ++ everything_dry3

pub everything_lane : Stretch (lane_call (rate_of 240)) (at 0 (fresh_lane (rate_of 240) everything.setup everything.lists)) everything.calls everything_lane4 everything_dry
everything_lane = everything_stretch0 & everything_stretch1 & everything_stretch2 & everything_stretch3

-- cd
abbrev cd_lane1 : At LaneMachine
cd_lane1 =
    lane 10 cd.setup cd.lists (line (double 0x3fd0000000000000) (double 0x3ff0000000000000) 6 40) (line (double 0x3fe0000000000000) (double 0x0) 6 30)
    (section (double 0x3f7e34a2319110a0) (double 0x3f8e34a2319110a0) (double 0x3f7e34a2319110a0) (double 0xbffd80256a059be1) (double 0x3febf1efe597c048) (double 0xc006000000000000) (double 0xc00f000000000000) (double 0xbfd4b1d1b4aa1cb2) (double 0xbfcf243b80f97858))
    (section (double 0x3f7bb8bfc84152b5) (double 0x3f8bb8bfc84152b5) (double 0x3f7bb8bfc84152b5) (double 0xbffb131a99cf28df) (double 0x3fe703fb31e05c54) (double 0xbfd4b1d1b4aa1cb2) (double 0xbfcf243b80f97858) (double 0xbfbd6e7f809a3482) (double 0xbfb8f4ce55b657a6))
    (section (double 0x3f716ed4f6236dc3) (double 0x0) (double 0xbf716ed4f6236dc3) (double 0xbfffdc89bc398d4a) (double 0x3fefba44ac277249) (double 0x0) (double 0x0) (double 0x0) (double 0x0))
    (section (double 0x3fc38e81e6245d47) (double 0x3fd38e81e6245d47) (double 0x3fc38e81e6245d47) (double 0xbfed73e9ab1106af) (double 0x3fe1026b913563f5) (double 0x0) (double 0x0) (double 0x0) (double 0x0))
    (section (double 0x3fbd61873674f51d) (double 0x3fcd61873674f51d) (double 0x3fbd61873674f51d) (double 0xbfe61fcb98666ddd) (double 0x3fc3423cce83a1af) (double 0x0) (double 0x0) (double 0x0) (double 0x0))
    (double 0xbfc62e0bc81fc900 ∷ double 0xbfc2cc15c30f33d9 ∷ double 0xbfbe9cf070fb26ed ∷ double 0xbfb769afb656fa72 ∷ double 0xbfb07237ba97d899 ∷ double 0xbfa4940b212dcd4a ∷ double 0xbf95f3efda4e2dc5 ∷ double 0xbf82ab7674a127cc ∷ double 0xbf633717ac187a8e ∷ double 0xbf334be8b7ccb6f4 ∷ double 0x0 ∷ double 0x0 ∷ double 0x0 ∷ double 0x0 ∷ double 0x0 ∷ double 0x0 ∷ double 0x0 ∷ double 0x0 ∷ double 0x0 ∷ double 0x0 ∷ double 0x0 ∷ double 0x0 ∷ double 0x0 ∷ double 0x0 ∷ double 0x0 ∷ double 0x0 ∷ double 0x0 ∷ double 0x0 ∷ double 0x0 ∷ double 0x0 ∷ double 0x0 ∷ double 0x0 ∷ double 0x0 ∷ double 0x0 ∷ double 0x0 ∷ double 0x0 ∷ double 0x0 ∷ double 0x0 ∷ double 0x0 ∷ double 0x0 ∷ double 0x0 ∷ double 0x0 ∷ double 0x0 ∷ double 0x0 ∷ double 0x0 ∷ double 0x0 ∷ double 0x0 ∷ double 0x0 ∷ double 0x0 ∷ double 0x0 ∷ double 0x0 ∷ double 0x0 ∷ double 0x0 ∷ double 0x0 ∷ double 0x0 ∷ double 0x0 ∷ double 0x0 ∷ double 0x0 ∷ double 0x0 ∷ double 0x0 ∷ double 0x0 ∷ double 0x0 ∷ double 0x0 ∷ double 0x0 ∷ [])
    (pole (double 0x3feaf8982814de21) (double 0x0))
    (true ∷ false ∷ false ∷ [])

abbrev cd_dry0 : List Sent
cd_dry0 = given cd.setup (double 0x0 ∷ double 0x0 ∷ double 0x0 ∷ double 0x0 ∷ double 0x0 ∷ double 0x0 ∷ double 0x0 ∷ double 0x0 ∷ double 0x0 ∷ double 0x0 ∷ [])

cd_stretch0 : Stretch (lane_fed (rate_of 44100)) (at 0 (fresh_lane (rate_of 44100) cd.setup cd.lists)) cd0 cd_lane1 cd_dry0
unfolding computed
cd_stretch0 = record { rolls = refl }

abbrev cd_lane2 : At LaneMachine
cd_lane2 =
    lane 20 cd.setup cd.lists (line (double 0x3fd0000000000000) (double 0x3ff0000000000000) 6 40) (line (double 0x3fe0000000000000) (double 0x0) 6 30)
    (section (double 0x3f7e34a2319110a0) (double 0x3f8e34a2319110a0) (double 0x3f7e34a2319110a0) (double 0xbffd80256a059be1) (double 0x3febf1efe597c048) (double 0x3fe2000000000000) (double 0x3ff9000000000000) (double 0xbfd2104370ccc6fd) (double 0xbfdc7e25fc3d9cdc))
    (section (double 0x3f7bb8bfc84152b5) (double 0x3f8bb8bfc84152b5) (double 0x3f7bb8bfc84152b5) (double 0xbffb131a99cf28df) (double 0x3fe703fb31e05c54) (double 0xbfd2104370ccc6fd) (double 0xbfdc7e25fc3d9cdc) (double 0xbfd96dd467c3226a) (double 0xbfd808a405980afd))
    (section (double 0x3f716ed4f6236dc3) (double 0x0) (double 0xbf716ed4f6236dc3) (double 0xbfffdc89bc398d4a) (double 0x3fefba44ac277249) (double 0x0) (double 0x0) (double 0x0) (double 0x0))
    (section (double 0x3fc38e81e6245d47) (double 0x3fd38e81e6245d47) (double 0x3fc38e81e6245d47) (double 0xbfed73e9ab1106af) (double 0x3fe1026b913563f5) (double 0x0) (double 0x0) (double 0x0) (double 0x0))
    (section (double 0x3fbd61873674f51d) (double 0x3fcd61873674f51d) (double 0x3fbd61873674f51d) (double 0xbfe61fcb98666ddd) (double 0x3fc3423cce83a1af) (double 0x0) (double 0x0) (double 0x0) (double 0x0))
    (double 0xbfe343ee7fb1d778 ∷ double 0xbfe232db0c663a51 ∷ double 0xbfe0d2cbbb8bb4c7 ∷ double 0xbfde8544ebc03ed1 ∷ double 0xbfdb2c7950168110 ∷ double 0xbfd7c1da322f5b72 ∷ double 0xbfd478a2bfcf91e1 ∷ double 0xbfd181b773aabf94 ∷ double 0xbfcdf42ab63984a9 ∷ double 0xbfc9c2ea7a92d135 ∷ double 0xbfc62e0bc81fc900 ∷ double 0xbfc2cc15c30f33d9 ∷ double 0xbfbe9cf070fb26ed ∷ double 0xbfb769afb656fa72 ∷ double 0xbfb07237ba97d899 ∷ double 0xbfa4940b212dcd4a ∷ double 0xbf95f3efda4e2dc5 ∷ double 0xbf82ab7674a127cc ∷ double 0xbf633717ac187a8e ∷ double 0xbf334be8b7ccb6f4 ∷ double 0x0 ∷ double 0x0 ∷ double 0x0 ∷ double 0x0 ∷ double 0x0 ∷ double 0x0 ∷ double 0x0 ∷ double 0x0 ∷ double 0x0 ∷ double 0x0 ∷ double 0x0 ∷ double 0x0 ∷ double 0x0 ∷ double 0x0 ∷ double 0x0 ∷ double 0x0 ∷ double 0x0 ∷ double 0x0 ∷ double 0x0 ∷ double 0x0 ∷ double 0x0 ∷ double 0x0 ∷ double 0x0 ∷ double 0x0 ∷ double 0x0 ∷ double 0x0 ∷ double 0x0 ∷ double 0x0 ∷ double 0x0 ∷ double 0x0 ∷ double 0x0 ∷ double 0x0 ∷ double 0x0 ∷ double 0x0 ∷ double 0x0 ∷ double 0x0 ∷ double 0x0 ∷ double 0x0 ∷ double 0x0 ∷ double 0x0 ∷ double 0x0 ∷ double 0x0 ∷ double 0x0 ∷ double 0x0 ∷ [])
    (pole (double 0x3feaf8982814de21) (double 0x0))
    (true ∷ false ∷ false ∷ [])

abbrev cd_dry1 : List Sent
cd_dry1 = given cd.setup (double 0x0 ∷ double 0x0 ∷ double 0x0 ∷ double 0x0 ∷ double 0x0 ∷ double 0x0 ∷ double 0x0 ∷ double 0x0 ∷ double 0x0 ∷ double 0x0 ∷ [])

cd_stretch1 : Stretch (lane_fed (rate_of 44100)) cd_lane1 cd1 cd_lane2 cd_dry1
unfolding computed
cd_stretch1 = record { rolls = refl }

abbrev cd_lane3 : At LaneMachine
cd_lane3 =
    lane 30 cd.setup cd.lists (line (double 0x3fe2cccccccccccd) (double 0x3fe0000000000000) 24 10) (line (double 0x3fc999999999999a) (double 0x3fe8000000000000) 24 20)
    (section (double 0x3f7736bb9c37da34) (double 0x3f8736bb9c37da34) (double 0x3f7736bb9c37da34) (double 0xbffdd9dfdf23d427) (double 0x3fec6d759b29671f) (double 0x3ffb000000000000) (double 0x400d800000000000) (double 0x3fef9e87cbd88230) (double 0x3feedac8c3e0fd66))
    (section (double 0x3f7583ef7cab04ff) (double 0x3f8583ef7cab04ff) (double 0x3f7583ef7cab04ff) (double 0xbffbaac29d5acf9d) (double 0x3fe801a4b69af761) (double 0x3fef9e87cbd88230) (double 0x3feedac8c3e0fd66) (double 0xbfb60e1ddf90075e) (double 0xbfc50be39466a177))
    (section (double 0x3f716ed4f6236dc3) (double 0x0) (double 0xbf716ed4f6236dc3) (double 0xbfffdc89bc398d4a) (double 0x3fefba44ac277249) (double 0xbfb248ec24853a10) (double 0xbfa21843faf18e0c) (double 0xbf4850d8c46d2af8) (double 0xbf3304638971fe18))
    (section (double 0x3fc38e81e6245d47) (double 0x3fd38e81e6245d47) (double 0x3fc38e81e6245d47) (double 0xbfed73e9ab1106af) (double 0x3fe1026b913563f5) (double 0xbfb259f18909dcb6) (double 0xbfa22593da345cf7) (double 0xbfa1463f217beaf6) (double 0xbf8a47f71f7472ce))
    (section (double 0x3fbd61873674f51d) (double 0x3fcd61873674f51d) (double 0x3fbd61873674f51d) (double 0xbfe61fcb98666ddd) (double 0x3fc3423cce83a1af) (double 0xbfa1463f217beaf6) (double 0xbf8a47f71f7472ce) (double 0xbf8282c49a5668ab) (double 0xbf669ac69ea0fee6))
    (double 0xbfc0cc3046d1041a ∷ double 0xbfd0055c22a437b2 ∷ double 0xbfd71489af79b351 ∷ double 0xbfdd3df3f63dc553 ∷ double 0xbfe118254597f16c ∷ double 0xbfe2dfbe86e96209 ∷ double 0xbfe3f5eaec7556f1 ∷ double 0xbfe46527d1214940 ∷ double 0xbfe467d5be518483 ∷ double 0xbfe404f07f9fb08a ∷ double 0xbfe343ee7fb1d778 ∷ double 0xbfe232db0c663a51 ∷ double 0xbfe0d2cbbb8bb4c7 ∷ double 0xbfde8544ebc03ed1 ∷ double 0xbfdb2c7950168110 ∷ double 0xbfd7c1da322f5b72 ∷ double 0xbfd478a2bfcf91e1 ∷ double 0xbfd181b773aabf94 ∷ double 0xbfcdf42ab63984a9 ∷ double 0xbfc9c2ea7a92d135 ∷ double 0xbfc62e0bc81fc900 ∷ double 0xbfc2cc15c30f33d9 ∷ double 0xbfbe9cf070fb26ed ∷ double 0xbfb769afb656fa72 ∷ double 0xbfb07237ba97d899 ∷ double 0xbfa4940b212dcd4a ∷ double 0xbf95f3efda4e2dc5 ∷ double 0xbf82ab7674a127cc ∷ double 0xbf633717ac187a8e ∷ double 0xbf334be8b7ccb6f4 ∷ double 0x0 ∷ double 0x0 ∷ double 0x0 ∷ double 0x0 ∷ double 0x0 ∷ double 0x0 ∷ double 0x0 ∷ double 0x0 ∷ double 0x0 ∷ double 0x0 ∷ double 0x0 ∷ double 0x0 ∷ double 0x0 ∷ double 0x0 ∷ double 0x0 ∷ double 0x0 ∷ double 0x0 ∷ double 0x0 ∷ double 0x0 ∷ double 0x0 ∷ double 0x0 ∷ double 0x0 ∷ double 0x0 ∷ double 0x0 ∷ double 0x0 ∷ double 0x0 ∷ double 0x0 ∷ double 0x0 ∷ double 0x0 ∷ double 0x0 ∷ double 0x0 ∷ double 0x0 ∷ double 0x0 ∷ double 0x0 ∷ [])
    (pole (double 0x3feaf8982814de21) (double 0xbf5e834d5e7d0e8f))
    (true ∷ false ∷ false ∷ [])

abbrev cd_dry2 : List Sent
cd_dry2 = given cd.setup (double 0x0 ∷ double 0x0 ∷ double 0x0 ∷ double 0x0 ∷ double 0x0 ∷ double 0xbee1e9994b08b662 ∷ double 0xbf2024d88c5e631e ∷ double 0xbf4c25cc28a64e9d ∷ double 0xbf6f483ecd721d30 ∷ double 0xbf891582462ad756 ∷ [])

cd_stretch2 : Stretch (lane_fed (rate_of 44100)) cd_lane2 cd2 cd_lane3 cd_dry2
unfolding computed
cd_stretch2 = record { rolls = refl }

abbrev cd_lane4 : At LaneMachine
cd_lane4 =
    lane 40 cd.setup cd.lists (line (double 0x3fe2cccccccccccd) (double 0x3fe0000000000000) 24 10) (line (double 0x3fc999999999999a) (double 0x3fe8000000000000) 24 20)
    (section (double 0x3f83df850b9d747b) (double 0x3f93df850b9d747b) (double 0x3f83df850b9d747b) (double 0xbffd113b5e605e92) (double 0x3feb606f0d7a946c) (double 0x400d000000000000) (double 0x400c000000000000) (double 0x3ff84667d309ff45) (double 0x3ff81febf3ba6638))
    (section (double 0x3f8207f27ddc385a) (double 0x3f9207f27ddc385a) (double 0x3f8207f27ddc385a) (double 0xbffa5f7d356ba4d0) (double 0x3fe5df7992b50d25) (double 0x3ff84667d309ff45) (double 0x3ff81febf3ba6638) (double 0x3fed7005f4a1e77e) (double 0x3fea4da969f788a8))
    (section (double 0x3f716ed4f6236dc3) (double 0x0) (double 0xbf716ed4f6236dc3) (double 0xbfffdc89bc398d4a) (double 0x3fefba44ac277249) (double 0xbfe4a932e18672e6) (double 0xbfe270b18acf047c) (double 0xbf9dcb8e9f33c840) (double 0xbf98b1cf3d5f946d))
    (section (double 0x3fc38e81e6245d47) (double 0x3fd38e81e6245d47) (double 0x3fc38e81e6245d47) (double 0xbfed73e9ab1106af) (double 0x3fe1026b913563f5) (double 0xbfe4fca00a5f943e) (double 0xbfe2b5d69bcd81dc) (double 0xbfe3016de7e3d777) (double 0xbfe0c4c38b5183be))
    (section (double 0x3fbd61873674f51d) (double 0x3fcd61873674f51d) (double 0x3fbd61873674f51d) (double 0xbfe61fcb98666ddd) (double 0x3fc3423cce83a1af) (double 0xbfe3016de7e3d777) (double 0xbfe0c4c38b5183be) (double 0xbfde7987e141d708) (double 0xbfdacc3427a65c51))
    (double 0x3ff689c1570b4e7b ∷ double 0x3ff420c0acecdba6 ∷ double 0x3ff17ec2f7f08c57 ∷ double 0x3fed70e57d5f4685 ∷ double 0x3fe7db8803568f28 ∷ double 0x3fe272218c300640 ∷ double 0x3fda91b8fc97f568 ∷ double 0x3fd0c0cfd75feb0a ∷ double 0x3fbe85b8a7578190 ∷ double 0xbf7da32034956030 ∷ double 0xbfc0cc3046d1041a ∷ double 0xbfd0055c22a437b2 ∷ double 0xbfd71489af79b351 ∷ double 0xbfdd3df3f63dc553 ∷ double 0xbfe118254597f16c ∷ double 0xbfe2dfbe86e96209 ∷ double 0xbfe3f5eaec7556f1 ∷ double 0xbfe46527d1214940 ∷ double 0xbfe467d5be518483 ∷ double 0xbfe404f07f9fb08a ∷ double 0xbfe343ee7fb1d778 ∷ double 0xbfe232db0c663a51 ∷ double 0xbfe0d2cbbb8bb4c7 ∷ double 0xbfde8544ebc03ed1 ∷ double 0xbfdb2c7950168110 ∷ double 0xbfd7c1da322f5b72 ∷ double 0xbfd478a2bfcf91e1 ∷ double 0xbfd181b773aabf94 ∷ double 0xbfcdf42ab63984a9 ∷ double 0xbfc9c2ea7a92d135 ∷ double 0xbfc62e0bc81fc900 ∷ double 0xbfc2cc15c30f33d9 ∷ double 0xbfbe9cf070fb26ed ∷ double 0xbfb769afb656fa72 ∷ double 0xbfb07237ba97d899 ∷ double 0xbfa4940b212dcd4a ∷ double 0xbf95f3efda4e2dc5 ∷ double 0xbf82ab7674a127cc ∷ double 0xbf633717ac187a8e ∷ double 0xbf334be8b7ccb6f4 ∷ double 0x0 ∷ double 0x0 ∷ double 0x0 ∷ double 0x0 ∷ double 0x0 ∷ double 0x0 ∷ double 0x0 ∷ double 0x0 ∷ double 0x0 ∷ double 0x0 ∷ double 0x0 ∷ double 0x0 ∷ double 0x0 ∷ double 0x0 ∷ double 0x0 ∷ double 0x0 ∷ double 0x0 ∷ double 0x0 ∷ double 0x0 ∷ double 0x0 ∷ double 0x0 ∷ double 0x0 ∷ double 0x0 ∷ double 0x0 ∷ [])
    (pole (double 0x3feaf8982814de21) (double 0xbfcfcb28e23e95f2))
    (true ∷ false ∷ false ∷ [])

abbrev cd_dry3 : List Sent
cd_dry3 = given cd.setup (double 0xbf9f5b2b93d25242 ∷ double 0xbfb01fe7b90ee8af ∷ double 0xbfbc5143c018d3b0 ∷ double 0xbfc5cb86df74688b ∷ double 0xbfce19a3b124ba45 ∷ double 0xbfd31822e607e946 ∷ double 0xbfd6c8234ac18775 ∷ double 0xbfda212fd24870d5 ∷ double 0xbfdd5d2e2af7f27c ∷ double 0xbfe06252709e5443 ∷ [])

cd_stretch3 : Stretch (lane_fed (rate_of 44100)) cd_lane3 cd3 cd_lane4 cd_dry3
unfolding computed
cd_stretch3 = record { rolls = refl }

abbrev pub cd_dry : List Sent
cd_dry = cd_dry0 ++ cd_dry1 ++ cd_dry2 ++ cd_dry3

pub cd_lane : Stretch (lane_fed (rate_of 44100)) (at 0 (fresh_lane (rate_of 44100) cd.setup cd.lists)) cd.events cd_lane4 cd_dry
cd_lane = cd_stretch0 & cd_stretch1 & cd_stretch2 & cd_stretch3
