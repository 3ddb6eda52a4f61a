-- Laws of the stores.
mod BodyStores
