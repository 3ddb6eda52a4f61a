-- Laws of the stores, and of tests of whole lists.
mod BodyStores
mod TestLaws
